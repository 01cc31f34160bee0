-- A group around one edit: cancelled, it leaves the book as it was; kept, it leaves what the edit alone does.
use Rattle.std.proofs.Common.{◌≡◌, ℕ, ◌+◌, Bool, true, false, cond, eqb, ltb, List, [], ◌∷◌, sym, refl, ap, ◌∙◌, append-nil, arith}
use Rattle.std.proofs.lemmas.List.{set-set, set-get_or}
use Rattle.std.proofs.lemmas.Bool.{eq-eqb, lt-ltb}
use Rattle.wait_book.specs.State.{summary, innermost, with_undo_record, merged, undo_record, opened}
use Rattle.groups.proofs.RollBackLemmas.{same_state}
use Rattle.wait_book.specs.Calls.{edits, opens, keeps, cancels, Answer, done, ticket, accepted, too_deep}
use Rattle.wait_book.specs.Rules.{BookState, book_state, Rules, changed, says, after}
use Rattle.wait_book.specs.CallSteps.{CallStep}

module _ {P E K : Type 0} (R : Rules P E K) where
  abbrev opening : BookState P K → BookState P K
  opening s = book_state s.fixed (opened s.state)

  -- what an opening that gives a ticket says of it, and does
  pub ticket_given : (s : BookState P K) (m d : ℕ) → ticket m d ≡ says R s opens → (m ≡ s.state.mark) × (d ≡ (summary s.state).depth + 1) × (after R s opens ≡ opening s)
  ticket_given s m d e = go (ltb (summary s.state).depth 8) e
    where
      go : (q : Bool) → ticket m d ≡ cond q (ticket s.state.mark ((summary s.state).depth + 1)) too_deep → (m ≡ s.state.mark) × (d ≡ (summary s.state).depth + 1) × (cond (accepted (cond q (ticket s.state.mark ((summary s.state).depth + 1)) too_deep)) (opening s) s ≡ opening s)
      go true h = (cc, cc, refl)
      go false h = absurd (cc h)

  -- an edit opens and ends no group
  edited_depth : (s : BookState P K) (e : E) → (summary (after R (opening s) (edits e)).state).depth ≡ (summary s.state).depth + 1
  edited_depth s e = go (accepted (says R (opening s) (edits e)))
    where
      go : (q : Bool) → (summary (cond q (changed R (opening s) (edits e)) (opening s)).state).depth ≡ (summary s.state).depth + 1
      go true = omega arith
      go false = omega arith

  edited_mark : (s : BookState P K) (e : E) → (after R (opening s) (edits e)).state.mark ≡ s.state.mark
  edited_mark s e = go (accepted (says R (opening s) (edits e)))
    where
      go : (q : Bool) → (cond q (changed R (opening s) (edits e)) (opening s)).state.mark ≡ s.state.mark
      go true = refl
      go false = refl

  -- the ticket of the opening fits after the edit
  fits_still : (s : BookState P K) (e : E) (m d : ℕ) → m ≡ s.state.mark → d ≡ (summary s.state).depth + 1 → innermost (after R (opening s) (edits e)).state.mark (summary (after R (opening s) (edits e)).state) m d ≡ true
  fits_still s e m d p q =
      let a : eqb m (after R (opening s) (edits e)).state.mark ≡ true = eq-eqb _ _ (p ∙ sym (edited_mark s e)) in
      let b : eqb d (summary (after R (opening s) (edits e)).state).depth ≡ true = eq-eqb _ _ (q ∙ sym (edited_depth s e)) in
      let c : ltb 0 d ≡ true = lt-ltb _ _ (omega (arith, q)) in
      rw (a, b, c)

  -- and so the group can be kept or cancelled by it
  pub keep_told : (s : BookState P K) (e : E) (m d : ℕ) → m ≡ s.state.mark → d ≡ (summary s.state).depth + 1 → says R (after R (opening s) (edits e)) (keeps m d) ≡ done
  keep_told s e m d p q = rw (fits_still s e m d p q)

  pub cancel_told : (s : BookState P K) (e : E) (m d : ℕ) → m ≡ s.state.mark → d ≡ (summary s.state).depth + 1 → says R (after R (opening s) (edits e)) (cancels m d) ≡ done
  cancel_told s e m d p q = rw (fits_still s e m d p q)

  pub cancelled_round : (s : BookState P K) (e : E) (m d : ℕ) → m ≡ s.state.mark → d ≡ (summary s.state).depth + 1 → after R (after R (opening s) (edits e)) (cancels m d) ≡ s
  cancelled_round s e m d p q = rw (fits_still s e m d p q) (go (accepted (says R (opening s) (edits e))))
    where
      go : (r : Bool) → changed R (cond r (changed R (opening s) (edits e)) (opening s)) (cancels m d) ≡ s
      go true = ap (book_state s.fixed) (same_state (set-set s.state.rows (R.job_of e) _ _ ∙ set-get_or s.state.rows (R.job_of e) (R.next_row s.state.rows e)) refl refl refl)
      go false = refl

  kept_groups : {X : Type 0} (gs : List (List X)) → merged ([] ∷ gs) ≡ gs
  kept_groups [] = refl
  kept_groups (g ∷ gs) = ap (λ h. h ∷ gs) (append-nil g)

  recorded_groups : {X : Type 0} (gs : List (List X)) (x : X) → merged ((x ∷ []) ∷ gs) ≡ with_undo_record gs x
  recorded_groups [] x = refl
  recorded_groups (g ∷ gs) x = refl

  pub kept_round : (s : BookState P K) (e : E) (m d : ℕ) → m ≡ s.state.mark → d ≡ (summary s.state).depth + 1 → after R (after R (opening s) (edits e)) (keeps m d) ≡ cond (accepted (says R (opening s) (edits e))) (changed R s (edits e)) s
  kept_round s e m d p q = rw (fits_still s e m d p q) (go (accepted (says R (opening s) (edits e))))
    where
      go : (r : Bool) → changed R (cond r (changed R (opening s) (edits e)) (opening s)) (keeps m d) ≡ cond r (changed R s (edits e)) s
      go true = ap (book_state s.fixed) (same_state refl (recorded_groups s.state.groups (undo_record s.state.rows (R.job_of e) (R.next_row s.state.rows e))) refl refl)
      go false = ap (book_state s.fixed) (same_state refl (kept_groups s.state.groups) refl refl)

  -- ---- from the promises of the calls: an opening that gives a ticket, and an edit

  module _ {s s₁ s₂ : BookState P K} {m d : ℕ} {e : E} {a : Answer} (first : CallStep R s opens (ticket m d) s₁) (second : CallStep R s₁ (edits e) a s₂) where
    given : (m ≡ s.state.mark) × (d ≡ (summary s.state).depth + 1) × (after R s opens ≡ opening s)
    given = ticket_given s m d first.value

    edited : s₂ ≡ after R (opening s) (edits e)
    edited = second.after ∙ ap (λ v. after R v (edits e)) (first.after ∙ given.2)

    pub cancel_leaves : {b : Answer} {s₃ : BookState P K} → CallStep R s₂ (cancels m d) b s₃ → s₃ ≡ s
    cancel_leaves third = third.after ∙ ap (λ v. after R v (cancels m d)) edited ∙ cancelled_round s e m d given.0 given.1

    pub keep_leaves : {b : Answer} {s₃ : BookState P K} → CallStep R s₂ (keeps m d) b s₃ → s₃ ≡ cond (accepted a) (changed R s (edits e)) s
    keep_leaves third =
        third.after
        ∙ ap (λ v. after R v (keeps m d)) edited
        ∙ kept_round s e m d given.0 given.1
        ∙ ap (λ v. cond (accepted v) (changed R s (edits e)) s) (sym (second.value ∙ ap (λ v. says R v (edits e)) (first.after ∙ given.2)))

    -- the edit, taken in the group, is taken
    pub round_accepted : accepted a ≡ true → (accepted (says R s opens) ≡ true) × (accepted (says R (opening s) (edits e)) ≡ true)
    round_accepted taken = (
      ap accepted (sym first.value),
      ap (λ v. accepted (says R v (edits e))) (sym (first.after ∙ given.2)) ∙ ap accepted (sym second.value) ∙ taken,
    )
