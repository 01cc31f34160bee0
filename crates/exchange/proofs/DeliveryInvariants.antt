-- What every delivery keeps.
use Rattle.std.proofs.Common.{◌≡◌, ℕ, suc, ◌+◌, ◌*◌, ◌<◌, ◌≤◌, Bool, true, cond, List, [], ◌∷◌, ◌++◌, length, get_or, set, replicate, sym, refl, ap, ◌∙◌, subst, inl, inr, arith, length-set}
use lib.ListN.{length-replicate}
use Rattle.std.proofs.ByRecursion.{All-append, all_shuffled}
use Rattle.std.proofs.lemmas.List.{get_or-set_same, get_or-set_other, get_or-replicate}
use Rattle.std.proofs.lemmas.List.Sorted.{IsPermutation-sym}
use Rattle.std.proofs.lemmas.Bool.{true≢false, cases_Bool, cases_eq}
use Rattle.std.proofs.lemmas.Bool.Decides.{nat_tests}
use Rattle.std.specs.List.{AllByRecursion}
use Rattle.carriers.specs.declared.message.Kind.{Kind}
use Rattle.carriers.specs.declared.message.Kind.TheVariants.{Notify, Done, Grant, Ack}
use Rattle.carriers.specs.declared.message.Message.{Message}
use Rattle.carriers.specs.declared.message.Wait.{Wait}
use Rattle.rows.specs.Waiting.{Waiting, among}
use Rattle.tables.specs.ClosedSets.{count}
use Rattle.tables.specs.Waits.{waits, waiters}
use Rattle.tables.proofs.Grants.{row_after_a_write}
use Rattle.tables.proofs.Laws.{who_waits_is_a_job}
use Rattle.carriers.specs.Messages.{receiver_on, receiver}
use Rattle.exchange.specs.Records.{blank}
use Rattle.exchange.specs.Rules.{Act, spread}
use Rattle.exchange.specs.Runs.{RunState, reaction, Begins, Delivers}
use Rattle.exchange.specs.Bounds.{IsDue}
use Rattle.exchange.specs.declared.record.RunRecord.{RunRecord}
use Rattle.exchange.proofs.Entries
use Rattle.exchange.proofs.Reactions
use Rattle.exchange.proofs.LawfulRows.{need, targets, Sound, count_le_length, count_grows, waits_by_waiter, waits_by_target}
use Rattle.exchange.proofs.Sums.{total, total_same, total_change, total_none, total_add, total_at, summand_le_total, count_is_total}
use Rattle.exchange.proofs.Weights.{weigh, weigh_append, weigh_shuffled}

-- An entry summed over the records of all jobs.
abbrev pub sums : ℕ → List RunRecord → (ℕ → RunRecord → ℕ) → ℕ
sums n records f = total n (λ j. f j (get_or records j blank))

-- An entry of the records comes to what messages on their way and another entry come to.
abbrev pub Balanced : (jobs : ℕ) → RunState → (ℕ → RunRecord → ℕ) → (Kind → Wait → ℕ) → (ℕ → RunRecord → ℕ) → Type 0
Balanced jobs s entry weight other = sums jobs s.records entry ≡ weigh weight s.waiting + sums jobs s.records other

-- First messages on their way or still to be put, and answers on their way or owed.
abbrev pub firsts_left : List Waiting → RunState → ℕ
firsts_left rows s = weigh Entries.first s.waiting + sums (length rows) s.records (Entries.ahead rows)

abbrev pub answers_left : List Waiting → RunState → ℕ
answers_left rows s = weigh Entries.answer s.waiting + sums (length rows) s.records (Entries.owed rows)

-- A notified job is in R, and a free one in S.
abbrev pub Held : (R S : ℕ → Bool) → ℕ → RunRecord → Type 0
Held R S j r = (r.notified ≡ true → R j ≡ true) × (r.free ≡ true → S j ≡ true)

pub record Kept (rows : List Waiting) (initiator k : ℕ) (s : RunState) : Type 0 where
  pub records : length s.records ≡ length rows
  pub fair : (j : ℕ) → j < length rows → Entries.Fair rows j (get_or s.records j blank)
  pub on_waits : AllByRecursion (Entries.OnWait rows) s.waiting
  -- the DONEs due to x: a NOTIFY or a DONE is on its way, or a job owes one; and so for ACKs
  pub dones : (x : ℕ) → Balanced (length rows) s (Entries.dones_of x) (Entries.notice_of x) (Entries.owes_done rows x)
  pub acks : (x : ℕ) → Balanced (length rows) s (Entries.acks_of x) (Entries.grant_of x) (Entries.owes_ack x)
  -- each free target of x has granted x, or its GRANT is on its way
  pub grants : (x : ℕ) → Balanced (length rows) s (Entries.free_for rows x) (Entries.grant_to x) (Entries.granted_of x)
  -- a target of a notified job is notified, or a NOTIFY to it is on its way
  pub told : (x y : ℕ) → among y (targets rows x) ≡ true → sums (length rows) s.records (Entries.notified_of y) ≡ 0
      → sums (length rows) s.records (Entries.notified_of x) ≤ weigh (Entries.notify_on x y) s.waiting
  pub begun : (get_or s.records initiator blank).notified ≡ true
  -- jobs are notified along waits, and freed by targets that are free
  pub held : (R S : ℕ → Bool) → Entries.Spreading rows initiator R → Entries.Freeing rows R S → (j : ℕ) → j < length rows → Held R S j (get_or s.records j blank)
  -- each delivery uses up a first message and makes an answer, or uses up an answer
  pub spent : 2 * firsts_left rows s + answers_left rows s + k ≡ 4 * waits rows
  pub left : firsts_left rows s + answers_left rows s ≤ 2 * waits rows

-- A message is the first of its wait, or an answer.
first_or_answer : (k : Kind) (w : Wait) → Entries.first k w + Entries.answer k w ≡ 1
first_or_answer Notify w = refl
first_or_answer Done w = refl
first_or_answer Grant w = refl
first_or_answer Ack w = refl

pub length-by_weight : (ms : List Message) → length ms ≡ weigh Entries.first ms + weigh Entries.answer ms
length-by_weight [] = refl
length-by_weight (m ∷ ms) = omega (arith, length-by_weight ms, first_or_answer m.kind m.wait)

-- The record of one job is written.
sums_after_a_write : (n : ℕ) (records : List RunRecord) (j : ℕ) (r : RunRecord) (f : ℕ → RunRecord → ℕ) → length records ≡ n → j < n
    → sums n (set records j r) f + f j (get_or records j blank) ≡ sums n records f + f j r
sums_after_a_write n records j r f e l =
    omega (
      arith,
      total_change n j (λ k. f k (get_or records k blank)) (λ k. f k (get_or (set records j r) k blank)) l (λ k d. ap (f k) (get_or-set_other records j k r blank d)),
      ap (f j) (get_or-set_same records j r blank (omega arith)),
    )

module _ (rows : List Waiting) (ok : Sound rows) where
  -- The entry of one job.
  pub sum_of_dones : (s : RunState) (x : ℕ) → x < length rows → sums (length rows) s.records (Entries.dones_of x) ≡ (get_or s.records x blank).dones_due
  sum_of_dones s x l = total_at (length rows) x (λ j. (get_or s.records j blank).dones_due) l

  pub sum_of_acks : (s : RunState) (x : ℕ) → x < length rows → sums (length rows) s.records (Entries.acks_of x) ≡ (get_or s.records x blank).acks_due
  sum_of_acks s x l = total_at (length rows) x (λ j. (get_or s.records j blank).acks_due) l

  pub sum_of_granted : (s : RunState) (x : ℕ) → x < length rows → sums (length rows) s.records (Entries.granted_of x) ≡ (get_or s.records x blank).granted
  sum_of_granted s x l = total_at (length rows) x (λ j. (get_or s.records j blank).granted) l

  pub sum_of_notified : (s : RunState) (x : ℕ) → x < length rows → sums (length rows) s.records (Entries.notified_of x) ≡ cond (get_or s.records x blank).notified 1 0
  sum_of_notified s x l = total_at (length rows) x (λ j. cond (get_or s.records j blank).notified 1 0) l

  abbrev pub is_free : RunState → ℕ → Bool
  is_free s u = (get_or s.records u blank).free

  pub sum_of_free : (s : RunState) (x : ℕ) → sums (length rows) s.records (Entries.free_for rows x) ≡ count (is_free s) (targets rows x)
  sum_of_free s x = sym (count_is_total (length rows) 0 (is_free s) (targets rows x) (ok.rises x) (ok.below x))

  -- What a message on its way finds.
  pub finds_due : (initiator k : ℕ) (s : RunState) → Kept rows initiator k s → (c : Kind) (w : Wait) → Entries.Waits rows w → ((f : Kind → Wait → ℕ) → f c w ≤ weigh f s.waiting)
      → IsDue rows c w (get_or s.records (receiver_on c w) blank)
  finds_due initiator k s v Notify w o h = tt
  finds_due initiator k s v Done w o h =
      let d = v.dones w.waiter in
      let p = h (Entries.notice_of w.waiter) in
      let a = sum_of_dones s w.waiter (Reactions.receiver_is_a_job rows ok Done w o) in
      grind (arith, nat_tests)
  finds_due initiator k s v Grant w o h =
      let d = v.grants w.waiter in
      let p = h (Entries.grant_to w.waiter) in
      let a = sum_of_granted s w.waiter (Reactions.receiver_is_a_job rows ok Grant w o) in
      let f = sum_of_free s w.waiter in
      let few = count_le_length (is_free s) (targets rows w.waiter) in
      grind (arith, nat_tests)
  finds_due initiator k s v Ack w o h =
      let d = v.acks w.target in
      let p = h (Entries.grant_of w.target) in
      let a = sum_of_acks s w.target (Reactions.receiver_is_a_job rows ok Ack w o) in
      grind (arith, nat_tests)

  -- A delivery.
  module _ (initiator k : ℕ) (s t : RunState) (m : Message) (v : Kept rows initiator k s) (d : Delivers rows m s t) where
    abbrev j : ℕ
    j = receiver m

    abbrev old : RunRecord
    old = get_or s.records (receiver m) blank

    abbrev act : Act
    act = reaction rows s.records m

    parts_on_waits : AllByRecursion (Entries.OnWait rows) (m ∷ d.rest)
    parts_on_waits = all_shuffled (Entries.OnWait rows) s.waiting (m ∷ d.rest) (IsPermutation-sym (m ∷ d.rest) s.waiting d.taken) v.on_waits

    on_wait : Entries.OnWait rows m
    on_wait = parts_on_waits.0

    pub is_a_job : j < length rows
    is_a_job = Reactions.receiver_is_a_job rows ok m.kind m.wait on_wait

    fair_before : Entries.Fair rows j old
    fair_before = v.fair j is_a_job

    fair_after : Entries.Fair rows j act.becomes
    fair_after = Reactions.stays_fair rows ok m.kind m.wait old fair_before on_wait

    weighs_less : (f : Kind → Wait → ℕ) → f m.kind m.wait ≤ weigh f s.waiting
    weighs_less f = omega (arith, weigh_shuffled f (m ∷ d.rest) s.waiting d.taken)

    due : IsDue rows m.kind m.wait old
    due = finds_due initiator k s v m.kind m.wait on_wait weighs_less

    -- how weights and sums change
    weighed : (f : Kind → Wait → ℕ) → weigh f t.waiting + f m.kind m.wait ≡ weigh f s.waiting + weigh f act.puts
    weighed f = omega (arith, weigh_shuffled f (m ∷ d.rest) s.waiting d.taken, weigh_shuffled f (d.rest ++ act.puts) t.waiting d.waiting, weigh_append f d.rest act.puts)

    summed : (f : ℕ → RunRecord → ℕ) → sums (length rows) t.records f + f j old ≡ sums (length rows) s.records f + f j act.becomes
    summed f =
        omega (arith, sums_after_a_write (length rows) s.records j act.becomes f v.records is_a_job, ap (λ (rs : List RunRecord). sums (length rows) rs f) d.records)

    balanced : (entry : ℕ → RunRecord → ℕ) (weight : Kind → Wait → ℕ) (other : ℕ → RunRecord → ℕ) → Balanced (length rows) s entry weight other
        → entry j act.becomes + (weight m.kind m.wait + other j old) ≡ entry j old + (weigh weight act.puts + other j act.becomes)
        → Balanced (length rows) t entry weight other
    balanced entry weight other b e = omega (arith, b, e, weighed weight, summed entry, summed other)

    -- a record after the delivery: the receiver's, or another's
    each_after : (P : ℕ → RunRecord → Type 0) (x : ℕ) → P j act.becomes → P x (get_or s.records x blank) → P x (get_or t.records x blank)
    each_after P x here there =
        subst (λ (rs : List RunRecord). P x (get_or rs x blank)) (sym d.records)
        (row_after_a_write P blank s.records j act.becomes x (omega (arith, is_a_job, v.records)) here (λ n. there))

    told_after : (x y : ℕ) → among y (targets rows x) ≡ true → sums (length rows) t.records (Entries.notified_of y) ≡ 0
        → sums (length rows) t.records (Entries.notified_of x) ≤ weigh (Entries.notify_on x y) t.waiting
    told_after x y a z =
        let p = summand_le_total (length rows) j (λ k. Entries.notified_of y k (get_or s.records k blank)) is_a_job in
        let q = summed (Entries.notified_of y) in
        let now : Entries.notified_of y j act.becomes ≡ 0 = omega arith in
        let n = Reactions.notifies_balance rows ok x y a m.kind m.wait old now in
        let u = v.told x y a (omega arith) in
        omega (arith, weighed (Entries.notify_on x y), summed (Entries.notified_of x))

    -- who put a NOTIFY that is on its way is notified, and who put a GRANT is free: an answer is due to it
    pub notifier_is_notified : m.kind ≡ Notify → (get_or s.records m.wait.waiter blank).notified ≡ true
    notifier_is_notified e =
        let x = m.wait.waiter in
        let l = who_waits_is_a_job rows x m.wait.target on_wait in
        elim (cases_Bool (get_or s.records x blank).notified) [
          | inl n ↦ n
          | inr n ↦ absurd (
              let w = subst (λ (c : Kind). Entries.notice_of x c m.wait ≤ weigh (Entries.notice_of x) s.waiting) e (weighs_less (Entries.notice_of x)) in
              let balance = v.dones x in
              let sum = sum_of_dones s x l in
              let none = (v.fair x l).unnotified n in
              grind (arith, nat_tests))
        ]

    pub granter_is_free : m.kind ≡ Grant → (get_or s.records m.wait.target blank).free ≡ true
    granter_is_free e =
        let x = m.wait.target in
        let l = ok.below m.wait.waiter x on_wait in
        elim (cases_Bool (get_or s.records x blank).free) [
          | inl f ↦ f
          | inr f ↦ absurd (
              let w = subst (λ (c : Kind). Entries.grant_of x c m.wait ≤ weigh (Entries.grant_of x) s.waiting) e (weighs_less (Entries.grant_of x)) in
              let balance = v.acks x in
              let sum = sum_of_acks s x l in
              let none = (v.fair x l).unfree f in
              grind (arith, nat_tests))
        ]

    module _ (R S : ℕ → Bool) (spreading : Entries.Spreading rows initiator R) (freeing : Entries.Freeing rows R S) where
      notified_is_held : act.becomes.notified ≡ true → R j ≡ true
      notified_is_held n = elim (Reactions.notified_by_notify rows ok m.kind m.wait old n) [
        | inl o ↦ (v.held R S spreading freeing j is_a_job).0 o
        | inr e ↦ subst (λ (c : Kind). R (receiver_on c m.wait) ≡ true) (sym e)
            (spreading.goes_on m.wait.waiter m.wait.target
            ((v.held R S spreading freeing m.wait.waiter (who_waits_is_a_job rows m.wait.waiter m.wait.target on_wait)).0 (notifier_is_notified e)) on_wait)
      ]

      granted_is_held : 0 < need rows j → need rows j ≤ old.granted + Entries.grant_to j m.kind m.wait → S j ≡ true
      granted_is_held p g = freeing.blocked j is_a_job p
          (omega (
            arith,
            g,
            sum_of_granted s j is_a_job,
            v.grants j,
            weighs_less (Entries.grant_to j),
            sum_of_free s j,
            count_grows (is_free s) S (targets rows j) (λ u a f. (v.held R S spreading freeing u (ok.below j u a)).1 f),
          ))

      free_is_held : act.becomes.free ≡ true → S j ≡ true
      free_is_held f = elim (cases_eq (need rows j) 0) [
        | inl z ↦ freeing.active j is_a_job (notified_is_held (sym (fair_after.active z) ∙ f)) z
        | inr z ↦ elim (Reactions.freed_by_grants rows ok m.kind m.wait old f) [
          | inl o ↦ (v.held R S spreading freeing j is_a_job).1 o
          | inr g ↦ granted_is_held (omega arith) g
        ]
      ]

      held_after : (x : ℕ) → x < length rows → Held R S x (get_or t.records x blank)
      held_after x l = each_after (Held R S) x (notified_is_held, free_is_held) (v.held R S spreading freeing x l)

    pub delivery_keeps : Kept rows initiator (suc k) t
    delivery_keeps =
        let ahead = Reactions.ahead_balance rows ok m.kind m.wait old fair_before in
        let owed = Reactions.owed_balance rows ok m.kind m.wait old fair_before on_wait due in
        let one = first_or_answer m.kind m.wait in
        record {
          records = ap length d.records ∙ length-set s.records j act.becomes ∙ v.records;
          fair = λ x l. each_after (Entries.Fair rows) x fair_after (v.fair x l);
          on_waits = all_shuffled (Entries.OnWait rows) (d.rest ++ act.puts) t.waiting d.waiting
              (All-append (Entries.OnWait rows) d.rest act.puts parts_on_waits.1 (Reactions.puts_on_waits rows ok m.kind m.wait old fair_before on_wait));
          dones = λ x. balanced (Entries.dones_of x) (Entries.notice_of x) (Entries.owes_done rows x) (v.dones x) (Reactions.dones_balance rows ok x m.kind m.wait old fair_before on_wait due);
          acks = λ x. balanced (Entries.acks_of x) (Entries.grant_of x) (Entries.owes_ack x) (v.acks x) (Reactions.acks_balance rows ok x m.kind m.wait old fair_before on_wait due);
          grants = λ x. balanced (Entries.free_for rows x) (Entries.grant_to x) (Entries.granted_of x) (v.grants x) (Reactions.grants_balance rows ok x m.kind m.wait old fair_before on_wait);
          told = told_after;
          begun = each_after (λ i r. (get_or s.records i blank).notified ≡ true → r.notified ≡ true) initiator (Reactions.stays_notified rows ok m.kind m.wait old) (λ n. n) v.begun;
          held = held_after;
          spent = omega (arith, v.spent, weighed Entries.first, weighed Entries.answer, summed (Entries.ahead rows), summed (Entries.owed rows), ahead, owed, one);
          left = omega (arith, v.left, weighed Entries.first, weighed Entries.answer, summed (Entries.ahead rows), summed (Entries.owed rows), ahead, owed, one);
        }

  -- The start.
  module _ (initiator : ℕ) (il : initiator < length rows) (s : RunState) (b : Begins rows initiator s) where
    abbrev blanks : List RunRecord
    blanks = replicate (length rows) blank

    abbrev act_first : Act
    act_first = spread rows initiator blank

    weighed_first : (f : Kind → Wait → ℕ) → weigh f s.waiting ≡ weigh f act_first.puts
    weighed_first f = weigh_shuffled f act_first.puts s.waiting b.waiting

    summed_first : (f : ℕ → RunRecord → ℕ) → sums (length rows) s.records f + f initiator blank ≡ total (length rows) (λ j. f j blank) + f initiator act_first.becomes
    summed_first f =
        omega (
          arith,
          ap (λ (rs : List RunRecord). sums (length rows) rs f) b.records,
          sums_after_a_write (length rows) blanks initiator act_first.becomes f (length-replicate (length rows) blank) il,
          ap (f initiator) (get_or-replicate (length rows) initiator blank blank il),
          total_same (length rows) (λ j. f j (get_or blanks j blank)) (λ j. f j blank) (λ j l. ap (f j) (get_or-replicate (length rows) j blank blank l)),
        )

    summed_none : (f : ℕ → RunRecord → ℕ) → ((j : ℕ) → f j blank ≡ 0) → sums (length rows) s.records f ≡ f initiator act_first.becomes
    summed_none f z = omega (arith, summed_first f, z initiator, total_same (length rows) (λ j. f j blank) (λ j. 0) (λ j l. z j), total_none (length rows))

    balanced_first : (entry : ℕ → RunRecord → ℕ) (weight : Kind → Wait → ℕ) (other : ℕ → RunRecord → ℕ) → ((j : ℕ) → entry j blank ≡ 0) → ((j : ℕ) → other j blank ≡ 0)
        → entry initiator act_first.becomes ≡ weigh weight act_first.puts + other initiator act_first.becomes
        → Balanced (length rows) s entry weight other
    balanced_first entry weight other z o e = omega (arith, summed_none entry z, summed_none other o, weighed_first weight, e)

    each_first : (P : ℕ → RunRecord → Type 0) (x : ℕ) → x < length rows → P initiator act_first.becomes → P x blank → P x (get_or s.records x blank)
    each_first P x l here there =
        subst (λ (rs : List RunRecord). P x (get_or rs x blank)) (sym b.records)
        (row_after_a_write P blank blanks initiator act_first.becomes x (omega (arith, length-replicate (length rows) blank)) here (λ n. subst (P x) (sym (get_or-replicate (length rows) x blank blank l)) there))

    unspread : Reactions.Unspread rows initiator blank
    unspread = record { unnotified = refl; unfree = λ z. (refl, refl, refl) }

    pub start_keeps : Kept rows initiator 0 s
    start_keeps =
        record {
          records = ap length b.records ∙ length-set blanks initiator act_first.becomes ∙ length-replicate (length rows) blank;
          fair = λ x l. each_first (Entries.Fair rows) x l (Reactions.spread_is_fair rows ok initiator blank (λ e. (refl, refl)) (λ h e. h) tt tt) (Reactions.blank_is_fair rows ok x);
          on_waits = all_shuffled (Entries.OnWait rows) act_first.puts s.waiting b.waiting (Reactions.spread_on_waits rows ok initiator blank);
          dones = λ x. balanced_first (Entries.dones_of x) (Entries.notice_of x) (Entries.owes_done rows x) (λ j. grind arith) (λ j. grind arith)
              (omega (arith, Reactions.spread_dones rows ok x initiator blank 0 refl (inr refl)));
          acks = λ x. balanced_first (Entries.acks_of x) (Entries.grant_of x) (Entries.owes_ack x) (λ j. grind arith) (λ j. grind arith)
              (let z : Entries.acks_of x initiator blank ≡ 0 = grind arith in omega (arith, Reactions.spread_acks rows ok x initiator blank unspread));
          grants = λ x. balanced_first (Entries.free_for rows x) (Entries.grant_to x) (Entries.granted_of x) (λ j. refl) (λ j. grind arith)
              (let z : Entries.granted_of x initiator blank ≡ 0 = grind arith in omega (arith, Reactions.spread_grants rows ok x initiator blank unspread));
          told = λ x y a z.
              let n : Entries.notified_of x initiator blank ≡ 0 = grind arith in
              omega (
                arith,
                n,
                z,
                weighed_first (Entries.notify_on x y),
                summed_none (Entries.notified_of x) (λ j. grind arith),
                summed_none (Entries.notified_of y) (λ j. grind arith),
                Reactions.spread_notifies rows ok x y initiator blank a refl,
              );
          begun = notified_first;
          held = λ R S spreading freeing x l. each_first (Held R S) x l (
            λ n. spreading.begins,
            Reactions.at_spread rows ok (λ a. a.becomes.free ≡ true → S initiator ≡ true) initiator blank
                (λ z f. freeing.active initiator il spreading.begins z) (λ z f. absurd (true≢false (sym f))),
          )
              (λ n. absurd (true≢false (sym n)), λ f. absurd (true≢false (sym f)));
          spent = omega (arith, all_firsts, no_answers);
          left = omega (arith, all_firsts, no_answers);
        }
      where
        notified_first : (get_or s.records initiator blank).notified ≡ true
        notified_first =
            ap (λ (rs : List RunRecord). (get_or rs initiator blank).notified) b.records
            ∙ ap (λ (r : RunRecord). r.notified) (get_or-set_same blanks initiator act_first.becomes blank (omega (arith, length-replicate (length rows) blank)))
            ∙ Reactions.spread_notified rows ok initiator blank

        all_firsts : firsts_left rows s ≡ 2 * waits rows
        all_firsts =
            omega (
              arith,
              weighed_first Entries.first,
              summed_first (Entries.ahead rows),
              Reactions.spread_ahead rows ok initiator blank unspread,
              total_add (length rows) (λ j. length (targets rows j)) (λ j. length (waiters rows j)),
              waits_by_waiter rows ok,
              waits_by_target rows ok,
            )

        no_answers : answers_left rows s ≡ 0
        no_answers = omega (arith, weighed_first Entries.answer, summed_none (Entries.owed rows) (λ j. grind arith), Reactions.first_spread_owes_nothing rows ok initiator)
