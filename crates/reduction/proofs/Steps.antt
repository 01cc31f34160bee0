-- What marking a job keeps.
use Rattle.std.proofs.Common.{◌≡◌, ℕ, ◌+◌, ◌-◌, ◌<◌, ◌≤◌, Bool, true, false, cond, not, ◌&&◌, eqb, leb, ◌⊎◌, List, [], ◌∷◌, ◌++◌, length, get_or, set, replicate, sym, refl, ap, ◌∙◌, subst, inl, inr, arith}
use Rattle.std.proofs.lemmas.List.{length-set, length_push, length-replicate, get_or-set_same, get_or-set_other, get_or_past, get_or-replicate}
use Rattle.std.proofs.lemmas.List.Sums.{count_by-le-length, sum_by-set}
use Rattle.std.proofs.lemmas.Bool.{or_cases, cases_eq, cases_lt, cases_Bool, true≢false, eq-eqb, ne_eqb, eqb-true, and_parts, and_right}
use Rattle.std.proofs.lemmas.Bool.Decides.{nat_tests}
use Rattle.containers.specs.Held.{Held, vacant}
use Rattle.rows.specs.Waiting.{Waiting, at, among}
use Rattle.tables.specs.ClosedSets.{count, IsClosed, IsLoosened}
use Rattle.rows.specs.Law.{rising}
use Rattle.rows.proofs.Laws.{fits_shaped}
use Rattle.tables.proofs.Grants.{closed_at}
use Rattle.tables.proofs.Laws.{lawful_at, who_waits_is_a_job}
use Rattle.tables.proofs.TargetLemmas.{among_push}
use Rattle.tables.proofs.WaiterLemmas.{among_rising_is_not_below}
use Rattle.reduction.specs.Marks.{loose, stuck, is_loose}
use Rattle.tables.specs.Tables.{lawful}
use Rattle.tables.specs.declared.table.TheConstants.{JOBS_MAX}
use Rattle.reduction.specs.Work.{Work, loose_count, is_processed, steps_left, NoneTwice, SoundMarks, Lacks, IsSaturated, IsCurrent, CanBeLoosened, with_loose, one_less, lowered, CanBeLowered, IsDecided, AllWait}

-- ---- counts

pub count_same : (S S' : ℕ → Bool) (ts : List ℕ) → ((u : ℕ) → among u ts ≡ true → S u ≡ S' u) → count S ts ≡ count S' ts
count_same S S' [] e = refl
count_same S S' (t ∷ ts) e =
    let here : S t ≡ S' t = e t (let q = eq-eqb t t refl in rw q) in
    let there = count_same S S' ts (λ u a. e u (let q = a in grind (arith, nat_tests))) in
    ap (λ b. cond b 1 0 + count S ts) here ∙ ap (λ n. cond (S' t) 1 0 + n) there

pub count_less : (S S' : ℕ → Bool) (ts : List ℕ) → ((u : ℕ) → among u ts ≡ true → S u ≡ true → S' u ≡ true) → count S ts ≤ count S' ts
count_less S S' [] e = omega arith
count_less S S' (t ∷ ts) e = go (S t) (S' t) (e t (let q = eq-eqb t t refl in rw q)) (count_less S S' ts (λ u a. e u (let q = a in grind (arith, nat_tests))))
  where
    go : (a b : Bool) → (a ≡ true → b ≡ true) → count S ts ≤ count S' ts → cond a 1 0 + count S ts ≤ cond b 1 0 + count S' ts
    go true true h l = omega arith
    go true false h l = absurd (true≢false (sym (h refl)))
    go false true h l = omega arith
    go false false h l = omega arith

pub count_none : (S : ℕ → Bool) (ts : List ℕ) → ((u : ℕ) → S u ≡ false) → count S ts ≡ 0
count_none S [] e = refl
count_none S (t ∷ ts) e = let rest = count_none S ts e in rw (e t) (omega arith)

-- of rising numbers, one more is counted
pub count_one_more : (S S' : ℕ → Bool) (low : ℕ) (ts : List ℕ) (j : ℕ) → rising low ts ≡ true → among j ts ≡ true → S j ≡ false → S' j ≡ true
    → ((u : ℕ) → (j ≡ u → ⊥) → S u ≡ S' u) → count S' ts ≡ count S ts + 1
count_one_more S S' low [] j r a f t e = absurd (true≢false (sym a))
count_one_more S S' low (x ∷ ts) j r a f t e =
    let above = (and_parts (leb low x) (rising (x + 1) ts) r).1 in
    elim (cases_eq x j) [
      | inl same ↦
          let rest = count_same S S' ts (λ u b. e u (λ (k : j ≡ u). absurd (omega (arith, among_rising_is_not_below (x + 1) ts u above b)))) in
          let here : S x ≡ false = ap S same ∙ f in
          let there : S' x ≡ true = ap S' same ∙ t in
          rw (here, there) (omega arith)
      | inr other ↦
          let b : among j ts ≡ true = rw (ne_eqb x j other) at a in
          let rest = count_one_more S S' (x + 1) ts j above b f t e in
          let here : S x ≡ S' x = e x (λ k. other (sym k)) in
          rw here (omega arith)
    ]

pub among_before_a_push : (u x : ℕ) (xs : List ℕ) → (u ≡ x → ⊥) → among u (xs ++ x ∷ []) ≡ true → among u xs ≡ true
among_before_a_push u x xs d a = elim (or_cases (among u xs) (eqb x u) (sym (among_push u x xs) ∙ a)) [
  | inl b ↦ b
  | inr e ↦ absurd (d (sym (eqb-true x u e)))
]

-- ---- numbers that stand once

none_twice_pushed : (x : ℕ) (xs : List ℕ) → NoneTwice xs → among x xs ≡ false → NoneTwice (xs ++ x ∷ [])
none_twice_pushed x [] n a = (refl, n)
none_twice_pushed x (y ∷ ys) n a =
    let other : y ≡ x → ⊥ = λ e. true≢false (sym (or_left_is_so (eq-eqb y x e)) ∙ a) in
    let rest : among x ys ≡ false = rw (ne_eqb y x other) at a in
    (among_push y x ys ∙ (let q = ne_eqb x y (λ e. other (sym e)) in rw (n.0, q) refl), none_twice_pushed x ys n.1 rest)
  where
    or_left_is_so : eqb y x ≡ true → among x (y ∷ ys) ≡ true
    or_left_is_so e = rw e refl

-- ---- marks

marked_set : (marks : List ℕ) (i v : ℕ) → i < length marks → (v ≡ i → ⊥) → is_loose (set marks i loose) v ≡ is_loose marks v
marked_set marks i v l d = ap (λ m. eqb m loose) (get_or-set_other marks i v loose stuck d)

marked_here : (marks : List ℕ) (i : ℕ) → i < length marks → is_loose (set marks i loose) i ≡ true
marked_here marks i l = ap (λ m. eqb m loose) (get_or-set_same marks i loose stuck l)

-- what is marked stays so
pub marked_still : (marks : List ℕ) (i v : ℕ) → i < length marks → is_loose marks v ≡ true → is_loose (set marks i loose) v ≡ true
marked_still marks i v l m = elim (cases_eq v i) [
  | inl e ↦ rw e (marked_here marks i l)
  | inr d ↦ marked_set marks i v l d ∙ m
]

pub unmarked_before : (marks : List ℕ) (i v : ℕ) → i < length marks → is_loose (set marks i loose) v ≡ false → (is_loose marks v ≡ false) × (v ≡ i → ⊥)
unmarked_before marks i v l m = (
  elim (cases_Bool (is_loose marks v)) [
    | inl t ↦ absurd (true≢false (sym (marked_still marks i v l t) ∙ m))
    | inr f ↦ f
  ],
  λ e. true≢false (sym (marked_here marks i l) ∙ subst (λ k. is_loose (set marks i loose) k ≡ false) e m),
)

-- a job that is marked and queued is not done, so that nothing more is done
pub done_same : (marks queue : List ℕ) (i v : ℕ) → i < length marks → is_loose marks i ≡ false → is_processed (set marks i loose) (queue ++ i ∷ []) v ≡ is_processed marks queue v
done_same marks queue i v l m = elim (cases_eq v i) [
  | inl e ↦ subst (λ k. is_processed (set marks i loose) (queue ++ i ∷ []) k ≡ is_processed marks queue k) (sym e) here
  | inr d ↦ there d
]
  where
    here : is_processed (set marks i loose) (queue ++ i ∷ []) i ≡ is_processed marks queue i
    here = let a = among_push i i queue in let q = eq-eqb i i refl in rw (a, m) (let k = q in grind (arith, nat_tests))

    there : (v ≡ i → ⊥) → is_processed (set marks i loose) (queue ++ i ∷ []) v ≡ is_processed marks queue v
    there d = let a = among_push v i queue in let q = ne_eqb i v (λ e. d (sym e)) in let b = marked_set marks i v l d in rw (b, a) (let k = q in grind (arith, nat_tests))

-- one mark more, where there was another
one_more : (w : Work) (i : ℕ) → SoundMarks w → CanBeLoosened w i → loose_count (set w.marks i loose) ≡ loose_count w.marks + 1
one_more w i b m = omega (arith, rw m.unmarked at (sum_by-set {X = ℕ} (λ n. cond (eqb n loose) 1 0) w.marks i loose stuck (omega (arith, b.len, m.is_job))))

not_all : (w : Work) (i : ℕ) → SoundMarks w → CanBeLoosened w i → loose_count w.marks < length w.marks
not_all w i b m = omega (arith, one_more w i b m, count_by-le-length (λ n. eqb n loose) (set w.marks i loose), length-set w.marks i loose)

-- a job that is not marked is not queued
pub not_queued : (w : Work) (i : ℕ) → SoundMarks w → is_loose w.marks i ≡ false → among i w.queue ≡ false
not_queued w i b m = elim (cases_Bool (among i w.queue)) [
  | inl a ↦ absurd (true≢false (sym (b.queued i a) ∙ m))
  | inr a ↦ a
]

-- one job more is marked and queued, which every closed set holds
pub mark_base : (w : Work) (i : ℕ) → SoundMarks w → CanBeLoosened w i → SoundMarks (with_loose w i)
mark_base w i b m =
    let k : i < length w.marks = omega (arith, b.len, m.is_job) in
    record {
      size = length-set w.marks i loose ∙ b.size;
      counters = b.counters;
      lawful = b.lawful;
      len = omega (arith, length-set w.marks i loose, b.len);
      bits = λ v h. elim (cases_eq v i) [
        | inl e ↦ inl (subst (λ n. get_or (set w.marks i loose) n stuck ≡ loose) (sym e) (get_or-set_same w.marks i loose stuck k))
        | inr d ↦ subst (λ n. (n ≡ loose) ⊎ (n ≡ stuck)) (sym (get_or-set_other w.marks i v loose stuck d)) (b.bits v h)
      ];
      sound = λ v h. elim (cases_eq v i) [
        | inl e ↦ subst (IsLoosened w.rows) (sym e) m.loosened
        | inr d ↦ b.sound v (sym (marked_set w.marks i v k d) ∙ h)
      ];
      queued = λ v a. elim (cases_eq v i) [
        | inl e ↦ subst (λ k. is_loose (set w.marks i loose) k ≡ true) (sym e) (marked_here w.marks i k)
        | inr d ↦ marked_still w.marks i v k (b.queued v (among_before_a_push v i w.queue d a))
      ];
      once = none_twice_pushed i w.queue b.once (not_queued w i b m.unmarked);
      few = omega (arith, b.few, length_push w.queue i, one_more w i b m);
    }

-- there is room in the queue for a job that is not marked
pub queue_room_left : (w : Work) (i : ℕ) → SoundMarks w → CanBeLoosened w i → length w.queue < JOBS_MAX
queue_room_left w i b m = omega (arith, b.few, b.size, not_all w i b m)

-- what is queued more can be marked less
pub mark_steps : (w : Work) (i : ℕ) → SoundMarks w → CanBeLoosened w i → steps_left (with_loose w i) ≡ steps_left w
mark_steps w i b m = omega (arith, length_push w.queue i, length-set w.marks i loose, one_more w i b m, not_all w i b m)

-- counters change, and no mark
pub counters_base : (w : Work) (lacking : List ℕ) → length lacking ≡ length w.lacking → SoundMarks w → SoundMarks (record w { lacking = lacking })
counters_base w lacking e b = record {
  size = b.size;
  counters = e ∙ b.counters;
  lawful = b.lawful;
  len = b.len;
  bits = b.bits;
  sound = b.sound;
  queued = b.queued;
  once = b.once;
  few = b.few;
}

-- ---- the loop over the jobs at the start

pub record Started (w : Work) (i : ℕ) : Type 0 where
  pub base : SoundMarks w
  pub later : (v : ℕ) → i ≤ v → is_loose w.marks v ≡ false
  pub none : (v : ℕ) → is_processed w.marks w.queue v ≡ false
  pub blocked : (v : ℕ) → v < i → is_loose w.marks v ≡ false → (0 < get_or w.lacking v 0) × (get_or w.lacking v 0 ≡ (at w.rows v).need)

-- no mark at all
stuck_everywhere : (n v : ℕ) → is_loose (replicate n stuck) v ≡ false
stuck_everywhere n v = elim (cases_lt v n) [
  | inl l ↦ ap (λ m. eqb m loose) (get_or-replicate n v stuck stuck l)
  | inr l ↦ ap (λ m. eqb m loose) (get_or_past (replicate n stuck) v stuck (omega (arith, length-replicate n stuck)))
]

-- where no job is active, the set of no job is closed, and so no job is loosened
module _ (rows : List Waiting) (blocked : AllWait rows (length rows)) where
  none_is_closed : IsClosed rows (λ (_ : ℕ). false)
  none_is_closed = record {
    active = λ v h z. absurd (let p = blocked v h in omega (arith, z));
    blocked = λ v h p n. absurd (let none = count_none (λ (_ : ℕ). false) (at rows v).targets (λ u. refl) in omega (arith, p, n));
  }

  pub all_stuck : IsDecided rows (replicate (length rows) stuck)
  all_stuck = record {
    len = omega (arith, length-replicate (length rows) stuck);
    bits = λ v h. inr (get_or-replicate (length rows) v stuck stuck h);
    loosened = λ v h. (
      λ m. absurd (true≢false (sym m ∙ stuck_everywhere (length rows) v)),
      λ all. absurd (true≢false (sym (all (λ (_ : ℕ). false) none_is_closed))),
    );
  }

-- one job more that waits
pub one_more_waits : (rows : List Waiting) (n need : ℕ) → need ≡ (at rows n).need → 0 < need → AllWait rows n → AllWait rows (n + 1)
one_more_waits rows n need e p w v l = elim (cases_eq v n) [
  | inl here ↦ subst (λ (k : ℕ). 0 < (at rows k).need) (sym here) (subst (λ (k : ℕ). 0 < k) e p)
  | inr there ↦ w v (omega (arith, l, there))
]

pub start_base : (rows : List Waiting) → lawful rows ≡ true → length rows ≤ JOBS_MAX → SoundMarks (record { rows = rows; marks = replicate JOBS_MAX stuck; lacking = replicate JOBS_MAX 0; queue = [] })
start_base rows law l = record {
  size = length-replicate JOBS_MAX stuck;
  counters = length-replicate {A = ℕ} JOBS_MAX 0;
  lawful = law;
  len = omega (arith, length-replicate JOBS_MAX stuck);
  bits = λ v h. inr (get_or-replicate JOBS_MAX v stuck stuck (omega arith));
  sound = λ v m. absurd (true≢false (sym m ∙ stuck_everywhere JOBS_MAX v));
  queued = λ v a. absurd (true≢false (sym a));
  once = tt;
  few = omega arith;
}

pub start_zero : (rows : List Waiting) → lawful rows ≡ true → length rows ≤ JOBS_MAX → Started (record { rows = rows; marks = replicate JOBS_MAX stuck; lacking = replicate JOBS_MAX 0; queue = [] }) 0
start_zero rows law l = record {
  base = start_base rows law l;
  later = λ v h. stuck_everywhere JOBS_MAX v;
  none = λ v. rw (stuck_everywhere JOBS_MAX v);
  blocked = λ v h m. absurd (omega arith);
}

-- an empty queue, and no mark
pub start_made : (rows : List Waiting) (queue : Held ℕ) → queue ≡ vacant JOBS_MAX → lawful rows ≡ true → length rows ≤ JOBS_MAX → SoundMarks (record { rows = rows; marks = replicate JOBS_MAX stuck; lacking = replicate JOBS_MAX 0; queue = queue.items }) × (queue.capacity ≡ JOBS_MAX)
start_made rows queue e law l = rw e (start_base rows law l, refl)

pub start_first : (rows : List Waiting) (queue : Held ℕ) → queue ≡ vacant JOBS_MAX → lawful rows ≡ true → length rows ≤ JOBS_MAX → Started (record { rows = rows; marks = replicate JOBS_MAX stuck; lacking = replicate JOBS_MAX 0; queue = queue.items }) 0
start_first rows queue e law l = rw e (start_zero rows law l)

pub start_skip : (w : Work) (i need : ℕ) → i < length w.rows → Started w i → need ≡ (at w.rows i).need → (need ≡ 0 → ⊥) → Started (record w { lacking = set w.lacking i need }) (i + 1)
start_skip w i need l s e b = record {
  base = counters_base w (set w.lacking i need) (length-set w.lacking i need) s.base;
  later = λ v l. s.later v (omega arith);
  none = s.none;
  blocked = λ v h m. elim (cases_eq v i) [
    | inl q ↦
        let here : get_or (set w.lacking i need) v 0 ≡ need =
        ap (λ k. get_or (set w.lacking i need) k 0) q ∙ get_or-set_same w.lacking i need 0 (omega (arith, s.base.counters, s.base.size, s.base.len)) in
        (omega (arith, here, b), here ∙ e ∙ ap (λ k. (at w.rows k).need) (sym q))
    | inr d ↦
        let there : get_or (set w.lacking i need) v 0 ≡ get_or w.lacking v 0 = get_or-set_other w.lacking i v need 0 d in
        let p = s.blocked v (omega arith) m in
        (omega (arith, there, p.0), there ∙ p.1)
  ];
}

-- an active job can be marked
pub start_can : (w : Work) (i : ℕ) → i < length w.rows → Started w i → (at w.rows i).need ≡ 0 → CanBeLoosened w i
start_can w i l s z = record { is_job = l; unmarked = s.later i (omega arith); loosened = λ S c. c.active i l z }

pub start_mark : (w : Work) (i : ℕ) → CanBeLoosened w i → Started w i → Started (with_loose w i) (i + 1)
start_mark w i can s =
    let k : i < length w.marks = omega (arith, s.base.len, can.is_job) in
    record {
      base = mark_base w i s.base can;
      later = λ v h. let d : v ≡ i → ⊥ = λ e. omega arith in marked_set w.marks i v k d ∙ s.later v (omega arith);
      none = λ v. done_same w.marks w.queue i v k can.unmarked ∙ s.none v;
      blocked = λ v h u. let b = unmarked_before w.marks i v k u in let d = b.1 in s.blocked v (elim (cases_eq v i) [ inl e ↦ absurd (d e) | inr n ↦ omega arith ]) b.0;
    }

pub start_saturated : (w : Work) (i : ℕ) → length w.rows ≤ i → Started w i → IsSaturated w
start_saturated w i l s v b m =
    let none = count_none (is_processed w.marks w.queue) (at w.rows v).targets s.none in
    let p = s.blocked v (omega arith) m in
    (p.0, omega (arith, none, p.1))

-- ---- from waiter to waiter of a job

-- Those that are left still lack the job at hand, and no other does.
abbrev pub queue_of : (left : ℕ → Bool) (job : ℕ) (queue : List ℕ) → ℕ → List ℕ
queue_of left job queue v = cond (left v) (job ∷ queue) queue

pub record Lowering (w₀ : Work) (job : ℕ) (left : ℕ → Bool) (w : Work) : Type 0 where
  pub rows : w.rows ≡ w₀.rows
  pub base : SoundMarks w
  pub marked : is_loose w.marks job ≡ true
  pub apart : among job w.queue ≡ false
  pub wait : (v : ℕ) → left v ≡ true → among job (at w.rows v).targets ≡ true
  pub lacks : (v : ℕ) → v < length w.rows → is_loose w.marks v ≡ false → Lacks w (is_processed w.marks (queue_of left job w.queue v)) v
  pub steps : steps_left w ≡ steps_left w₀

-- the job at hand alone is looked at besides
at_hand_alone : (w : Work) (job : ℕ) (u : ℕ) → (job ≡ u → ⊥) → is_processed w.marks (job ∷ w.queue) u ≡ is_processed w.marks w.queue u
at_hand_alone w job u d = let q = ne_eqb job u d in rw q refl

-- At the start all waiters are left.
pub lower_start : (w : Work) (job : ℕ) → SoundMarks w → IsCurrent w job → Lowering w job (λ v. among job (at w.rows v).targets) w
lower_start w job b h = record {
  rows = refl;
  base = b;
  marked = h.marked;
  apart = h.apart;
  wait = λ v a. a;
  lacks = λ v l m. elim (cases_Bool (among job (at w.rows v).targets)) [
    | inl a ↦ rw a (h.saturated v l m)
    | inr a ↦
        let same = count_same (is_processed w.marks w.queue) (is_processed w.marks (job ∷ w.queue)) (at w.rows v).targets
        (λ u t. sym (at_hand_alone w job u (λ (e : job ≡ u). true≢false (sym t ∙ subst (λ k. among k (at w.rows v).targets ≡ false) e a)))) in
        let p = h.saturated v l m in
        rw a (p.0, omega (arith, p.1, same))
  ];
  steps = refl;
}

-- The same jobs are left, told by another test.
pub lower_same : (w₀ : Work) (job : ℕ) (left rest : ℕ → Bool) (w : Work) → ((v : ℕ) → left v ≡ rest v) → Lowering w₀ job left w → Lowering w₀ job rest w
lower_same w₀ job left rest w e p = record {
  rows = p.rows;
  base = p.base;
  marked = p.marked;
  apart = p.apart;
  wait = λ v a. p.wait v (e v ∙ a);
  lacks = λ v l m. subst (λ (b : Bool). Lacks w (is_processed w.marks (cond b (job ∷ w.queue) w.queue)) v) (e v) (p.lacks v l m);
  steps = p.steps;
}

pub lower_end : (w₀ : Work) (job : ℕ) (left : ℕ → Bool) (w : Work) → ((v : ℕ) → left v ≡ false) → Lowering w₀ job left w → IsSaturated w
lower_end w₀ job left w e p v l m = rw (e v) at (p.lacks v l m)

-- One of those that are left is looked at, and then is not left.
module _ (w₀ : Work) (job x : ℕ) (left rest : ℕ → Bool) (w : Work) (p : Lowering w₀ job left w) (x_is_left : left x ≡ true) (taken : (v : ℕ) → rest v ≡ (left v && not (eqb v x))) where
  pub x_is_a_job : x < length w.rows
  x_is_a_job = who_waits_is_a_job w.rows x job (p.wait x x_is_left)

  x_is_not_in_rest : rest x ≡ false
  x_is_not_in_rest = taken x ∙ and_right (left x) (not (eqb x x)) (ap not (eq-eqb x x refl))

  rest_is_left : (v : ℕ) → rest v ≡ true → left v ≡ true
  rest_is_left v a = (and_parts (left v) _ (sym (taken v) ∙ a)).0

  others_stay : (v : ℕ) → (v ≡ x → ⊥) → left v ≡ rest v
  others_stay v d = sym (taken v ∙ ap (λ b. left v && not b) (ne_eqb v x d) ∙ and_true (left v))
    where
      and_true : (a : Bool) → (a && true) ≡ a
      and_true a = elim a as (λ (a : Bool). (a && true) ≡ a) [ true ↦ refl | false ↦ refl ]

  others_are_as_before : (v : ℕ) → (v ≡ x → ⊥) → queue_of left job w.queue v ≡ queue_of rest job w.queue v
  others_are_as_before v d = ap (λ (b : Bool). cond b (job ∷ w.queue) w.queue) (others_stay v d)

  -- One target more is done, of those of x.
  one_target_more : count (is_processed w.marks w.queue) (at w.rows x).targets ≡ count (is_processed w.marks (job ∷ w.queue)) (at w.rows x).targets + 1
  one_target_more =
      count_one_more (is_processed w.marks (job ∷ w.queue)) (is_processed w.marks w.queue) 0 (at w.rows x).targets job
      (and_parts _ _ (fits_shaped (length w.rows) x (at w.rows x) (lawful_at w.rows p.base.lawful x x_is_a_job))).1
      (p.wait x x_is_left)
      (let q = eq-eqb job job refl in rw (p.marked, q) refl)
      (let a = p.apart in rw (p.marked, a) refl)
      (at_hand_alone w job)

  module _ (m : is_loose w.marks x ≡ false) where
    x_lacks : (0 < get_or w.lacking x 0) × (get_or w.lacking x 0 + count (is_processed w.marks (job ∷ w.queue)) (at w.rows x).targets ≡ (at w.rows x).need)
    x_lacks = rw x_is_left at (p.lacks x x_is_a_job m)

    x_can_be_loosened : get_or w.lacking x 0 ≡ 1 → CanBeLoosened w x
    x_can_be_loosened last = record {
      is_job = x_is_a_job;
      unmarked = m;
      loosened = λ S c.
          closed_at w.rows S c x x_is_a_job
          (omega (
            arith,
            x_lacks.1,
            one_target_more,
            count_less (is_processed w.marks w.queue) S (at w.rows x).targets (λ u _ d. p.base.sound u (and_parts (is_loose w.marks u) _ d).0 S c),
          ));
    }

  pub can_be_lowered : CanBeLowered w x
  can_be_lowered = record { is_job = x_is_a_job; lacks = λ m. (x_lacks m).0; last = x_can_be_loosened }

  -- The rest, where marks and queue are as they were.
  lower_on : (lacking : List ℕ) → length lacking ≡ length w.lacking
      → ((v : ℕ) → v < length w.rows → is_loose w.marks v ≡ false → Lacks (record w { lacking = lacking }) (is_processed w.marks (queue_of rest job w.queue v)) v)
      → Lowering w₀ job rest (record w { lacking = lacking })
  lower_on lacking long all = record {
    rows = p.rows;
    base = counters_base w lacking long p.base;
    marked = p.marked;
    apart = p.apart;
    wait = λ v a. p.wait v (rest_is_left v a);
    lacks = all;
    steps = p.steps;
  }

  lower_marked : is_loose w.marks x ≡ true → Lowering w₀ job rest w
  lower_marked m =
      lower_on w.lacking refl
      (λ v l u. elim (cases_eq v x) [
        | inl q ↦ absurd (true≢false (sym m ∙ subst (λ k. is_loose w.marks k ≡ false) q u))
        | inr d ↦ subst (λ q. Lacks w (is_processed w.marks q) v) (others_are_as_before v d) (p.lacks v l u)
      ])

  module _ (m : is_loose w.marks x ≡ false) where
    less : List ℕ
    less = set w.lacking x (get_or w.lacking x 0 - 1)

    less_here : get_or less x 0 ≡ get_or w.lacking x 0 - 1
    unfolding less
    less_here = get_or-set_same w.lacking x (get_or w.lacking x 0 - 1) 0 (omega (arith, x_is_a_job, p.base.counters, p.base.size, p.base.len))

    less_there : (v : ℕ) → (v ≡ x → ⊥) → get_or less v 0 ≡ get_or w.lacking v 0
    unfolding less
    less_there v d = get_or-set_other w.lacking x v (get_or w.lacking x 0 - 1) 0 d

    others_lack : (v : ℕ) → (v ≡ x → ⊥) → v < length w.rows → is_loose w.marks v ≡ false → Lacks (record w { lacking = less }) (is_processed w.marks (queue_of rest job w.queue v)) v
    others_lack v d l u =
        let q = subst (λ q. Lacks w (is_processed w.marks q) v) (others_are_as_before v d) (p.lacks v l u) in
        (omega (arith, q.0, less_there v d), omega (arith, q.1, less_there v d))

    lower_one : (get_or w.lacking x 0 ≡ 1 → ⊥) → Lowering w₀ job rest (one_less w x)
    unfolding less
    lower_one more =
        lower_on less (length-set w.lacking x (get_or w.lacking x 0 - 1))
        (λ v l u. elim (cases_eq v x) [
          | inl q ↦
              subst (λ k. Lacks (record w { lacking = less }) (is_processed w.marks (queue_of rest job w.queue k)) k) (sym q)
              (rw x_is_not_in_rest (omega (arith, (x_lacks m).0, less_here, more), omega (arith, (x_lacks m).0, (x_lacks m).1, less_here, one_target_more)))
          | inr d ↦ others_lack v d l u
        ])

    lower_last : get_or w.lacking x 0 ≡ 1 → Lowering w₀ job rest (with_loose (one_less w x) x)
    unfolding less
    lower_last last =
        let can = x_can_be_loosened m last in
        let one = counters_base w less (length-set w.lacking x (get_or w.lacking x 0 - 1)) p.base in
        let k : x < length w.marks = omega (arith, p.base.len, x_is_a_job) in
        let can_one : CanBeLoosened (one_less w x) x = record { is_job = can.is_job; unmarked = can.unmarked; loosened = can.loosened } in
        record {
          rows = p.rows;
          base = mark_base (one_less w x) x one can_one;
          marked = marked_still w.marks x job k p.marked;
          apart = among_push job x w.queue ∙ (let a = p.apart in let q = ne_eqb x job (λ e. true≢false (sym p.marked ∙ subst (λ k. is_loose w.marks k ≡ false) e m)) in rw (a, q) refl);
          wait = λ v a. p.wait v (rest_is_left v a);
          lacks = λ v l u.
              let was = unmarked_before w.marks x v k u in
              let q = others_lack v was.1 l was.0 in
              (q.0, omega (arith, q.1, count_same (is_processed (set w.marks x loose) (queue_of rest job (w.queue ++ x ∷ []) v)) (is_processed w.marks (queue_of rest job w.queue v)) (at w.rows v).targets (λ t _. queued_more v t)));
          steps = mark_steps (one_less w x) x one can_one ∙ p.steps;
        }
      where
        queued_more : (v t : ℕ) → is_processed (set w.marks x loose) (queue_of rest job (w.queue ++ x ∷ []) v) t ≡ is_processed w.marks (queue_of rest job w.queue v) t
        queued_more v t = go (rest v)
          where
            go : (b : Bool) → is_processed (set w.marks x loose) (cond b (job ∷ (w.queue ++ x ∷ [])) (w.queue ++ x ∷ [])) t ≡ is_processed w.marks (cond b (job ∷ w.queue) w.queue) t
            go true = done_same w.marks (job ∷ w.queue) x t (omega (arith, p.base.len, x_is_a_job)) m
            go false = done_same w.marks w.queue x t (omega (arith, p.base.len, x_is_a_job)) m

  pub lower_next : Lowering w₀ job rest (lowered w x)
  lower_next = elim (cases_Bool (is_loose w.marks x)) [
    | inl m ↦ rw m (lower_marked m)
    | inr m ↦ elim (cases_eq (get_or w.lacking x 0) 1) [
      | inl l ↦ rw (m, eq-eqb (get_or w.lacking x 0) 1 l) (lower_last m l)
      | inr d ↦ rw (m, ne_eqb (get_or w.lacking x 0) 1 d) (lower_one m d)
    ]
  ]

-- ---- the end

pub all_decided : (w : Work) → w.queue ≡ [] → SoundMarks w → IsSaturated w → IsDecided w.rows w.marks
all_decided w none b s = record {
  len = b.len;
  bits = b.bits;
  loosened = λ v h. (λ m. b.sound v m, λ f. f (is_loose w.marks) closed);
}
  where
    all : (v : ℕ) → is_processed w.marks w.queue v ≡ is_loose w.marks v
    all v = rw none (grind (arith, nat_tests))

    short : (v : ℕ) → v < length w.rows → is_loose w.marks v ≡ false → count (is_loose w.marks) (at w.rows v).targets < (at w.rows v).need
    short v h m = let e = count_same (is_processed w.marks w.queue) (is_loose w.marks) (at w.rows v).targets (λ u _. all u) in let p = s v h m in omega (arith, e, p.0, p.1)

    closed : IsClosed w.rows (is_loose w.marks)
    closed = record {
      active = λ v h z. elim (cases_Bool (is_loose w.marks v)) [ inl m ↦ m | inr m ↦ absurd (omega (arith, short v h m)) ];
      blocked = λ v h p n. elim (cases_Bool (is_loose w.marks v)) [ inl m ↦ m | inr m ↦ absurd (omega (arith, short v h m)) ];
    }
