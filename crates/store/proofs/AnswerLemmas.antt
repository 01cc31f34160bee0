-- Answers and states by the rules, from the ways that the program takes.
use Rattle.std.proofs.Common.{◌≡◌, ℕ, ◌+◌, ◌<◌, ◌≤◌, Bool, true, false, cond, not, ◌||◌, ltb, leb, ◌⊎◌, List, length, IsErrAnd, Some, None, Ok, Err, Option, Result, sym, refl, ap, ◌∙◌, arith}
use Rattle.std.proofs.lemmas.Bool.{le-leb, lt-leb, lt-ltb, le-ltb}
use Rattle.std.proofs.lemmas.Bool.Decides.{nat_tests}
use Rattle.std.specs.Option.{ok_or}
use Rattle.rows.specs.declared.plain.PlainRow.{PlainRow}
use Rattle.rows.specs.declared.plain.Row.{Row}
use Rattle.rows.specs.declared.plain.RowFault.{RowFault}
use Rattle.rows.specs.declared.plain.RowFault.TheVariants.{WrongCounts as RowCounts}
use Rattle.rows.specs.Law.{row_fits}
use Rattle.rows.proofs.Laws.{sound_fits, grant_fits}
use Rattle.rows.specs.Waiting.{Waiting, at, among}
use Rattle.rows.specs.Changes.{wrong_counts, first_wrong, granted, placed, requested}
use Rattle.rows.specs.StoredRows.{StoredWhole, waiting, waiting_of, seen_some, granted_by}
use Rattle.groups.specs.declared.store.TicketId.{TicketId}
use Rattle.groups.specs.StateViews.{view}
use Rattle.groups.proofs.ViewLemmas.{view_written}
use Rattle.groups.specs.State.{State, summary, full, written, opened}
use Rattle.store.specs.declared.fault.BookFault.{BookFault}
use Rattle.store.specs.declared.fault.BookFault.TheVariants.{NoSuchJob, Blocked, WrongCounts, TrailFull, GranterBlocked, NoSuchWait, TooDeep}
use Rattle.store.specs.Faults.{of_row}
use Rattle.store.specs.Plain.{Edit, requests, grants, plain, PlainBook, book_of, refusal, unless_no_row}
use Rattle.histories.specs.Calls.{edits, opens, Answer, done}
use Rattle.histories.specs.Rules.{says, book_state}
use Rattle.store.specs.Replies.{edit_reply, open_reply_by_id}
use Rattle.histories.specs.CallSteps.{CallStep}
use Rattle.store.specs.Memory.{IsLawful}
use Rattle.histories.proofs.TicketIdAnswers.{ticket_id_answer}
use Rattle.histories.proofs.CallLemmas.{open_call_step, stopped_call_step, edit_call_step}
use Rattle.store.proofs.LawfulMemory.{written_lawful}
use Rattle.store.proofs.RowViews.{jobs_seen, wide}
use Rattle.tables.proofs.Laws.{lawful_at}
use Rattle.tables.specs.Tables.{lawful}

-- ---- groups

-- an opening's answer
opening_replies : (r : Option TicketId) → open_reply_by_id (ok_or r TooDeep) ≡ ticket_id_answer r
opening_replies (Some k) = refl
opening_replies None = refl

pub opening_call_step : (n : ℕ) (s t : State PlainRow) (r : Option TicketId) → r ≡ cond (ltb (summary s).depth 8) (Some (record { mark = s.mark; depth = (summary s).depth + 1 })) None → t ≡ cond (ltb (summary s).depth 8) (opened s) s → CallStep plain (book_of (view n waiting s)) opens (open_reply_by_id (ok_or r TooDeep)) (book_of (view n waiting t))
opening_call_step n s t r e f = rw (opening_replies r) (open_call_step n waiting plain tt s t r e f)

-- ---- edits

-- a row that is written, as it is stored
module _ (n : ℕ) (s : State PlainRow) (l : IsLawful n s) (job : ℕ) (row : Row) (p : PlainRow) (h : StoredWhole row p) (less : job < length (view n waiting s).rows) where
  below : job < n
  below = rw (jobs_seen n s l) at less

  says_the_row : waiting p ≡ waiting_of row
  says_the_row = (h.decided p h.lawful).0 refl

  pub write_lawful : row_fits (length (view n waiting s).rows) job (waiting_of row) ≡ true → IsLawful n (written s job p)
  write_lawful fits =
      written_lawful n s l job p below (sound_fits n job p h.lawful (ap (row_fits n job) says_the_row ∙ ap (λ k. row_fits k job (waiting_of row)) (sym (jobs_seen n s l)) ∙ fits))

  pub write_seen : book_of (view n waiting (written s job p)) ≡ book_of (written (view n waiting s) job (waiting_of row))
  write_seen = ap book_of (view_written n waiting s job p (wide n s l) below ∙ ap (written (view n waiting s) job) says_the_row)

-- a fault that is carried on
pub carried_fault : (r : Result (Unit {0}) BookFault) (e : BookFault) → IsErrAnd r (λ y. y ≡ e) → edit_reply r ≡ refusal e
carried_fault (Ok u) e h = absurd h
carried_fault (Err f) e h = ap refusal h

-- a row that is there to be written
pub row_there : (w : Option Row) (row : Row) (e : BookFault) → Ok row ≡ ok_or w e → Some (waiting_of row) ≡ seen_some w
row_there None row e h = absurd (cc h)
row_there (Some v) row e h = let same : row ≡ v = cc h in ap (λ r. Some (waiting_of r)) same

-- a row that is granted, or is not there to be
pub grant_none : (u : ℕ) (w : Waiting) → None ≡ granted_by u w → among u w.targets ≡ false
grant_none u w e = go (among u w.targets) e
  where
    go : (q : Bool) → None ≡ cond {A = Option Waiting} q (Some (granted u w)) None → q ≡ false
    go true h = absurd (cc h)
    go false h = refl

pub grant_some : (u : ℕ) (w v : Waiting) → Some v ≡ granted_by u w → (among u w.targets ≡ true) × (v ≡ granted u w)
grant_some u w v e = go (among u w.targets) e
  where
    go : (q : Bool) → Some v ≡ cond {A = Option Waiting} q (Some (granted u w)) None → (q ≡ true) × (v ≡ granted u w)
    go true h = (refl, cc)
    go false h = absurd (cc h)

placed_is : (q : Bool) (p : Option ℕ) (w v : Waiting) → cond {A = Result Waiting RowFault} q (Err RowCounts) (placed p w) ≡ Ok v → w ≡ v
placed_is true p w v e = absurd (cc e)
placed_is false None w v e = cc
placed_is false (Some place) w v e = absurd (cc e)

module _ (s : PlainBook) (n : ℕ) (jobs : n ≡ length s.state.rows) where
  refused : (e : Edit) (fault : BookFault) → refusal fault ≡ says plain s (edits e) → CallStep plain s (edits e) (refusal fault) s
  refused e fault p = stopped_call_step plain s e (refusal fault) (refusal fault) refl refl p

  module _ (job need : ℕ) (targets : List ℕ) where
    pub no_job : n ≤ job → CallStep plain s (edits (requests job need targets)) (refusal NoSuchJob) s
    no_job l =
        let q : leb (length s.state.rows) job ≡ true = le-leb _ _ (omega (arith, jobs)) in
        refused (requests job need targets) NoSuchJob (rw q)

    pub is_blocked : job < n → 0 < (at s.state.rows job).need → CallStep plain s (edits (requests job need targets)) (refusal Blocked) s
    is_blocked l b =
        let q : leb (length s.state.rows) job ≡ false = lt-leb _ _ (omega (arith, jobs)) in
        let r : ltb 0 (at s.state.rows job).need ≡ true = lt-ltb _ _ b in
        refused (requests job need targets) Blocked (rw (q, r))

    request_says : job < n → (at s.state.rows job).need ≤ 0 → says plain s (edits (requests job need targets)) ≡ unless_no_row (requested n job need targets) (cond (full s.state.trail_room (summary s.state)) (refusal TrailFull) done)
    request_says l b =
        let q : leb (length s.state.rows) job ≡ false = lt-leb _ _ (omega (arith, jobs)) in
        let r : ltb 0 (at s.state.rows job).need ≡ false = le-ltb _ _ b in
        rw (q, r, ← jobs) refl

    pub no_row : job < n → (at s.state.rows job).need ≤ 0 → (e : RowFault) (r : Result (Unit {0}) BookFault) → Err e ≡ requested n job need targets → IsErrAnd r (λ y. y ≡ of_row e) → CallStep plain s (edits (requests job need targets)) (edit_reply r) s
    no_row l b e r f h =
        stopped_call_step plain s (requests job need targets) (edit_reply r) (refusal (of_row e)) refl (carried_fault r (of_row e) h)
        (sym (request_says l b ∙ ap (λ k. unless_no_row k (cond (full s.state.trail_room (summary s.state)) (refusal TrailFull) done)) (sym f)))

    pub request_call_step : job < n → (at s.state.rows job).need ≤ 0 → (w : Waiting) (a : Answer) (t : PlainBook) → Ok w ≡ requested n job need targets → a ≡ cond (full s.state.trail_room (summary s.state)) (refusal TrailFull) done → t ≡ cond (full s.state.trail_room (summary s.state)) s (book_state s.fixed (written s.state job w)) → CallStep plain s (edits (requests job need targets)) a t
    request_call_step l b w a t f g h =
        edit_call_step plain s t (requests job need targets) w a
        (sym (placed_is (wrong_counts need (length targets)) (first_wrong n job 0 0 targets) (record { need = need; targets = targets }) w (sym f)))
        (request_says l b ∙ ap (λ k. unless_no_row k (cond (full s.state.trail_room (summary s.state)) (refusal TrailFull) done)) (sym f))
        g h

  module _ (granter waiter : ℕ) where
    pub no_jobs : (n ≤ granter) ⊎ ((granter < n) × (n ≤ waiter)) → CallStep plain s (edits (grants granter waiter)) (refusal NoSuchJob) s
    no_jobs past =
        let k = jobs in
        let q : (leb (length s.state.rows) granter || leb (length s.state.rows) waiter) ≡ true = grind (arith, nat_tests) in
        refused (grants granter waiter) NoSuchJob (rw q)

    both : granter < n → waiter < n → (leb (length s.state.rows) granter || leb (length s.state.rows) waiter) ≡ false
    both l m = let k = jobs in grind (arith, nat_tests)

    pub is_stuck : granter < n → waiter < n → 0 < (at s.state.rows granter).need → CallStep plain s (edits (grants granter waiter)) (refusal GranterBlocked) s
    is_stuck l m b =
        let r : ltb 0 (at s.state.rows granter).need ≡ true = lt-ltb _ _ b in
        refused (grants granter waiter) GranterBlocked (rw (both l m, r))

    grant_says : granter < n → waiter < n → (at s.state.rows granter).need ≤ 0 → says plain s (edits (grants granter waiter)) ≡ cond (not (among granter (at s.state.rows waiter).targets)) (refusal NoSuchWait) (cond (full s.state.trail_room (summary s.state)) (refusal TrailFull) done)
    grant_says l m b =
        let r : ltb 0 (at s.state.rows granter).need ≡ false = le-ltb _ _ b in
        rw (both l m, r)

    pub no_wait : granter < n → waiter < n → (at s.state.rows granter).need ≤ 0 → (w : Option Row) (e : BookFault) (r : Result (Unit {0}) BookFault) → seen_some w ≡ granted_by granter (at s.state.rows waiter) → Err e ≡ ok_or w NoSuchWait → IsErrAnd r (λ y. y ≡ e) → CallStep plain s (edits (grants granter waiter)) (edit_reply r) s
    no_wait l m b None e r f g h =
        let same : e ≡ NoSuchWait = cc g in
        stopped_call_step plain s (grants granter waiter) (edit_reply r) (refusal NoSuchWait) refl (carried_fault r e h ∙ ap refusal same)
        (sym (grant_says l m b ∙ ap (λ q. cond (not q) (refusal NoSuchWait) (cond (full s.state.trail_room (summary s.state)) (refusal TrailFull) done)) (grant_none granter (at s.state.rows waiter) f)))
    no_wait l m b (Some w) e r f g h = absurd (cc g)

    pub grant_call_step : granter < n → waiter < n → (at s.state.rows granter).need ≤ 0 → (w : Waiting) (a : Answer) (t : PlainBook) → Some w ≡ granted_by granter (at s.state.rows waiter) → a ≡ cond (full s.state.trail_room (summary s.state)) (refusal TrailFull) done → t ≡ cond (full s.state.trail_room (summary s.state)) s (book_state s.fixed (written s.state waiter w)) → CallStep plain s (edits (grants granter waiter)) a t
    grant_call_step l m b w a t e g h =
        let some = grant_some granter (at s.state.rows waiter) w e in
        edit_call_step plain s t (grants granter waiter) w a some.1
        (grant_says l m b ∙ ap (λ q. cond (not q) (refusal NoSuchWait) (cond (full s.state.trail_room (summary s.state)) (refusal TrailFull) done)) some.0)
        g h

    pub granted_fits : lawful s.state.rows ≡ true → waiter < n → (w : Waiting) → Some w ≡ granted_by granter (at s.state.rows waiter) → row_fits (length s.state.rows) waiter w ≡ true
    granted_fits o m w e =
        let some = grant_some granter (at s.state.rows waiter) w e in
        ap (row_fits (length s.state.rows) waiter) some.1 ∙ grant_fits (length s.state.rows) waiter granter (at s.state.rows waiter) (lawful_at s.state.rows o waiter (omega (arith, jobs))) some.0
