-- From the marks to what the reduction promises.
use Rattle.std.proofs.Common.{◌≡◌, ℕ, ◌<◌, true, ◌⊎◌, List, ◌++◌, length, get_or, take, drop, sym, ◌∙◌, inl, inr, arith}
use Rattle.std.proofs.lemmas.List.{get_or_default, get_or_append_left, get_or-take, length-take}
use Rattle.std.proofs.lemmas.Slice.{drop-append-drop}
use Rattle.std.proofs.lemmas.Bool.{eq-eqb, eqb-true}
use Rattle.rows.specs.Waiting.{Waiting, at}
use Rattle.tables.specs.Grants.{CanBeFreed}
use Rattle.tables.specs.ClosedSets.{IsClosed, IsLoosened, LoosenedCanBeFreed}
use Rattle.tables.specs.Tables.{lawful}
use Rattle.reduction.specs.Marks.{loose, stuck, is_loose}
use Rattle.reduction.specs.Work.{IsDecided}
use Rattle.reduction.specs.Reduced.{Reduced}
use Rattle.tables.proofs.Laws.{target_below}
use Rattle.reduction.proofs.Steps.{count_less}

module _ (rows : List Waiting) (marks before : List ℕ) (l : lawful rows ≡ true) (d : IsDecided rows marks) (theorem : LoosenedCanBeFreed) where
  first : length (take (length rows) marks) ≡ length rows
  first = let l = d.len in simp length-take (omega arith)

  here : (v : ℕ) (x : ℕ) → v < length rows → get_or (take (length rows) marks ++ drop (length rows) before) v x ≡ get_or marks v stuck
  here v x l =
      get_or_append_left (take (length rows) marks) (drop (length rows) before) x v (omega (arith, first))
      ∙ get_or-take (length rows) marks v x l
      ∙ get_or_default marks v x stuck (omega (arith, d.len))

  is_marked : (v : ℕ) → v < length rows → get_or marks v stuck ≡ loose → IsLoosened rows v
  is_marked v l e = (d.loosened v l).0 (eq-eqb (get_or marks v stuck) loose e)

  abbrev left : List ℕ
  left = take (length rows) marks ++ drop (length rows) before

  is_left : (v : ℕ) → v < length rows → IsLoosened rows v → is_loose left v ≡ true
  is_left v h f = eq-eqb (get_or left v stuck) loose (here v stuck h ∙ eqb-true (get_or marks v stuck) loose ((d.loosened v h).1 f))

  was_left : (v : ℕ) → v < length rows → is_loose left v ≡ true → IsLoosened rows v
  was_left v h s = is_marked v h (sym (here v stuck h) ∙ eqb-true (get_or left v stuck) loose s)

  -- what every closed set holds is a closed set
  left_are_closed : IsClosed rows (is_loose left)
  left_are_closed = record {
    active = λ v h z. is_left v h (λ S c. c.active v h z);
    blocked = λ v h p n. is_left v h (λ S c. c.blocked v h p (omega (arith, n, count_less (is_loose left) S (at rows v).targets (λ u a s. was_left u (target_below rows l v u a) s S c))));
  }

  pub reduced : Reduced rows before (take (length rows) marks ++ drop (length rows) before)
  reduced = record {
    loosened = λ v l. (
      λ e. is_marked v l (sym (here v stuck l) ∙ e),
      λ f. here v stuck l ∙ eqb-true (get_or marks v stuck) loose ((d.loosened v l).1 f),
    );
    closed = left_are_closed;
    stuck = λ v l. (
      λ e can. let free = eqb-true (get_or marks v stuck) loose ((d.loosened v l).1 ((theorem rows v l).1 can)) in let z : ◌≡◌ {A = ℕ} 0 1 = sym free ∙ sym (here v loose l) ∙ e in omega arith,
      λ never. go v l never (d.bits v l),
    );
    rest = drop-append-drop (length rows) before (take (length rows) marks) (length rows) (omega arith) first;
  }
    where
      go : (v : ℕ) → v < length rows → (CanBeFreed rows v → ⊥) → (get_or marks v stuck ≡ loose) ⊎ (get_or marks v stuck ≡ stuck) → get_or (take (length rows) marks ++ drop (length rows) before) v loose ≡ stuck
      go v l never (inl e) = absurd (never ((theorem rows v l).0 (is_marked v l e)))
      go v l never (inr e) = here v loose l ∙ e
