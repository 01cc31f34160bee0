-- Answers and states by the rules, from what the groups' calls do. The groups hold rows as they are stored, P; the book shows what they mean, Q.
use Rattle.std.proofs.Common.{◌≡◌, ℕ, ◌+◌, ◌≤◌, Bool, true, false, cond, ◌&&◌, eqb, ltb, length, Some, None, Ok, Err, Option, Result, sym, refl, ap, ◌∙◌}
use Rattle.groups.specs.declared.store.Ending.{Ending}
use Rattle.groups.specs.declared.store.Ending.TheVariants.{Keep, Cancel}
use Rattle.groups.specs.declared.store.TicketId.{TicketId}
use Rattle.groups.specs.TicketIds.{fits, ended_as}
use Rattle.groups.specs.StateViews.{view}
use Rattle.groups.proofs.ViewLemmas.{view_kept, view_cancelled, view_depth, view_used}
use Rattle.groups.specs.State.{State, Summary, summary, full, innermost, written, opened, kept, cancelled}
use Rattle.histories.specs.Calls.{Answer, done, ticket, accepted, trail_full, too_deep, not_innermost, Call, edits, opens, keeps, cancels, ends}
use Rattle.histories.specs.CallSteps.{CallStep}
use Rattle.histories.specs.Rules.{BookState, book_state, Rules, says, changed}
use Rattle.histories.proofs.TicketIdAnswers.{ticket_id_answer, ending_answer_of}
use Rattle.histories.proofs.SimulationLemmas.{call_step}

-- a summary decides the same where it counts the same
full_same : {P Q : Type 0} (trail_room : ℕ) (f : Summary P) (f' : Summary Q) → f.depth ≡ f'.depth → f.recorded ≡ f'.recorded → full trail_room f ≡ full trail_room f'
full_same trail_room f f' d u = rw (d, u)

open_replies : (q : Bool) (m d d' : ℕ) → d ≡ d' → ticket_id_answer (cond {A = Option TicketId} q (Some (record { mark = m; depth = d + 1 })) None) ≡ cond q (ticket m (d' + 1)) too_deep
open_replies true m d d' f = ap (λ n. ticket m (n + 1)) f
open_replies false m d d' f = refl

end_replies : (q : Bool) (k : TicketId) (r : Result (Unit {0}) TicketId) → r ≡ cond q (Ok tt) (Err k) → ending_answer_of r ≡ cond q done (not_innermost k.mark k.depth)
end_replies true k r e = ap ending_answer_of e
end_replies false k r e = ap ending_answer_of e

module _ {Q E K : Type 0} (R : Rules Q E K) where
  -- a call that is accepted or refused by one test
  by_test : (s t w : BookState Q K) (c : Call E) (a taken refused : Answer) (q r : Bool) → says R s c ≡ cond q taken refused → accepted taken ≡ true → accepted refused ≡ false → q ≡ r → changed R s c ≡ w → a ≡ cond r taken refused → t ≡ cond r w s → CallStep R s c a t
  by_test s t w c a taken refused true true e y n qr ch f g =
      call_step R s c a t (f ∙ sym e) (g ∙ sym ch ∙ ap (λ k. cond k (changed R s c) s) (sym (ap accepted e ∙ y)))
  by_test s t w c a taken refused false false e y n qr ch f g =
      call_step R s c a t (f ∙ sym e) (g ∙ ap (λ k. cond k (changed R s c) s) (sym (ap accepted e ∙ n)))
  by_test s t w c a taken refused true false e y n qr ch f g = absurd (cc qr)
  by_test s t w c a taken refused false true e y n qr ch f g = absurd (cc qr)

  -- a refused edit changes nothing
  pub stopped_call_step : (s : BookState Q K) (e : E) (a stop : Answer) → accepted stop ≡ false → a ≡ stop → stop ≡ says R s (edits e) → CallStep R s (edits e) a s
  stopped_call_step s e a stop refused h p =
      call_step R s (edits e) a s (h ∙ p) (ap (λ k. cond k (changed R s (edits e)) s) (sym refused ∙ ap accepted p))

  -- an edit that passes its own checks is stopped by a full trail alone
  pub edit_call_step : (s t : BookState Q K) (e : E) (w : Q) (a : Answer) → w ≡ R.next_row s.state.rows e → says R s (edits e) ≡ cond (full s.state.trail_room (summary s.state)) trail_full done → a ≡ cond (full s.state.trail_room (summary s.state)) trail_full done → t ≡ cond (full s.state.trail_room (summary s.state)) s (book_state s.fixed (written s.state (R.job_of e) w)) → CallStep R s (edits e) a t
  edit_call_step s t e w a is p f g =
      call_step R s (edits e) a t (f ∙ sym p)
      (g
      ∙ ap (λ v. cond (full s.state.trail_room (summary s.state)) s (book_state s.fixed (written s.state (R.job_of e) v))) is
      ∙ go (full s.state.trail_room (summary s.state))
      ∙ ap (λ k. cond (accepted k) (changed R s (edits e)) s) (sym p))
    where
      go : (b : Bool) → cond b s (changed R s (edits e)) ≡ cond (accepted (cond b trail_full done)) (changed R s (edits e)) s
      go true = refl
      go false = refl

module _ {P : Type 0} (n : ℕ) {Q : Type 0} (f : P → Q) where
  pub full_seen : (s : State P) → full s.trail_room (summary (view n f s)) ≡ full s.trail_room (summary s)
  full_seen s = full_same s.trail_room (summary (view n f s)) (summary s) (view_depth n f s) (view_used n f s)

  fits_seen : (s : State P) (t : TicketId) → innermost s.mark (summary (view n f s)) t.mark t.depth ≡ fits s t
  fits_seen s t = ap (λ k. eqb t.mark s.mark && (eqb t.depth k && ltb 0 t.depth)) (view_depth n f s)

  -- a book of such rows
  abbrev pub seen : {K : Type 0} → K → State P → BookState Q K
  seen fixed s = book_state fixed (view n f s)

  seen_if : {K : Type 0} (fixed : K) (q : Bool) (s t : State P) → seen fixed (cond q s t) ≡ cond q (seen fixed s) (seen fixed t)
  seen_if fixed true s t = refl
  seen_if fixed false s t = refl

  module _ {E K : Type 0} (R : Rules Q E K) (fixed : K) (s t : State P) where
    pub open_call_step : (r : Option TicketId) → r ≡ cond (ltb (summary s).depth 8) (Some (record { mark = s.mark; depth = (summary s).depth + 1 })) None → t ≡ cond (ltb (summary s).depth 8) (opened s) s → CallStep R (seen fixed s) opens (ticket_id_answer r) (seen fixed t)
    open_call_step r e g =
        let d = view_depth n f s in
        let q = ltb (summary s).depth 8 in
        by_test R (seen fixed s) (seen fixed t) (book_state fixed (opened (view n f s))) opens _ (ticket s.mark ((summary (view n f s)).depth + 1)) too_deep (ltb (summary (view n f s)).depth 8) q refl refl refl (ap (λ k. ltb k 8) d) refl
        (ap ticket_id_answer e ∙ open_replies q s.mark (summary s).depth (summary (view n f s)).depth (sym d))
        (ap (seen fixed) g ∙ seen_if fixed q (opened s) s)

    pub end_call_step : n ≤ length s.rows → (e : Ending) (k : TicketId) (r : Result (Unit {0}) TicketId) → r ≡ cond (fits s k) (Ok tt) (Err k) → t ≡ cond (fits s k) (ended_as e s) s → CallStep R (seen fixed s) (ends e k.mark k.depth) (ending_answer_of r) (seen fixed t)
    end_call_step l Keep k r e g =
        by_test R (seen fixed s) (seen fixed t) (seen fixed (kept s)) (keeps k.mark k.depth) _ done (not_innermost k.mark k.depth) _ (fits s k) refl refl refl (fits_seen s k) (ap (book_state fixed) (sym (view_kept n f s)))
        (end_replies (fits s k) k r e)
        (ap (seen fixed) g ∙ seen_if fixed (fits s k) (kept s) s)
    end_call_step l Cancel k r e g =
        by_test R (seen fixed s) (seen fixed t) (seen fixed (cancelled s)) (cancels k.mark k.depth) _ done (not_innermost k.mark k.depth) _ (fits s k) refl refl refl (fits_seen s k) (ap (book_state fixed) (sym (view_cancelled n f s l)))
        (end_replies (fits s k) k r e)
        (ap (seen fixed) g ∙ seen_if fixed (fits s k) (cancelled s) s)
