-- A call that answers and changes the book by the rules simulates every history that the book represents.
use Rattle.std.proofs.Common.{◌≡◌, ◌-◌, Bool, true, false, cond, List, [], ◌∷◌, length, replicate, sym, refl, ap, ◌∙◌, subst, arith}
use Rattle.std.proofs.lemmas.List.{length-set, length-replicate}
use Rattle.groups.specs.State.{State, undo_record, with_undo_record, merged, outside}
use Rattle.groups.specs.History.{History, begun}
use Rattle.groups.specs.Representation.{RepresentsFrom}
use Rattle.groups.proofs.RepresentationLemmas.{represents_summary, write_represents, open_represents, keep_represents, cancel_represents}
use Rattle.groups.proofs.ViewLemmas.{length-restored}
use Rattle.histories.specs.Calls.{Call, edits, opens, keeps, cancels, Answer, accepted}
use Rattle.histories.specs.Rules.{Parameters, BookState, parameters, Rules, fresh_book, answer, says, after, changed, changed_state}
use Rattle.histories.specs.Histories.{answers, lists_after, history_after}
use Rattle.histories.specs.CallSteps.{depth_after, Represents, Simulates, CallStep}

-- how many groups are open after a call
length-with_undo_record : {X : Type 0} (gs : List (List X)) (x : X) → length (with_undo_record gs x) ≡ length gs
length-with_undo_record [] x = refl
length-with_undo_record (g ∷ gs) x = refl

length-merged : {X : Type 0} (gs : List (List X)) → length (merged gs) ≡ length gs - 1
length-merged [] = refl
length-merged (g ∷ []) = refl
length-merged (g ∷ (h ∷ gs)) = omega arith

length-outside : {X : Type 0} (gs : List (List X)) → length (outside gs) ≡ length gs - 1
length-outside [] = refl
length-outside (g ∷ gs) = omega arith

module _ {P E K : Type 0} (R : Rules P E K) where
  -- no call changes the number of jobs
  pub length-changed : (s : BookState P K) (c : Call E) → length (changed R s c).state.rows ≡ length s.state.rows
  length-changed s (edits e) = length-set s.state.rows (R.job_of e) (R.next_row s.state.rows e)
  length-changed s opens = refl
  length-changed s (keeps mark depth) = refl
  length-changed s (cancels mark depth) = length-restored s.state.rows s.state.groups

  changed_represents : (first : List P) (s : State P) (c : Call E) (h : History E) → RepresentsFrom R.job_of R.next_row first s h → RepresentsFrom R.job_of R.next_row first (changed_state R s c) (lists_after h c)
  changed_represents first s (edits e) h w = write_represents R.job_of R.next_row first s e h w
  changed_represents first s opens h w = open_represents R.job_of R.next_row first s h w
  changed_represents first s (keeps mark depth) h w = keep_represents R.job_of R.next_row first s h w
  changed_represents first s (cancels mark depth) h w = cancel_represents R.job_of R.next_row first s h w

  pub says_answers : (s : BookState P K) (c : Call E) (h : History E) → Represents R s h → says R s c ≡ answers R (parameters s) h c
  says_answers s c h w = ap (λ f. answer R (parameters s) f c) (represents_summary R.job_of R.next_row (replicate (length s.state.rows) R.idle) s.state h w)

  pub after_represents : (s : BookState P K) (c : Call E) (h : History E) → Represents R s h → Represents R (after R s c) (history_after R (parameters s) h c)
  after_represents s c h w = go (accepted (says R s c)) (accepted (answers R (parameters s) h c)) (ap accepted (says_answers s c h w))
    where
      go : (a b : Bool) → a ≡ b → Represents R (cond a (changed R s c) s) (cond b (lists_after h c) h)
      go true true e = subst (λ n. RepresentsFrom R.job_of R.next_row (replicate n R.idle) (changed_state R s.state c) (lists_after h c)) (sym (length-changed s c)) (changed_represents (replicate (length s.state.rows) R.idle) s.state c h w)
      go false false e = w
      go true false e = absurd (cc e)
      go false true e = absurd (cc e)

  -- so a book simulates every history that it represents
  pub simulates : Simulates R
  simulates s c h w = (says_answers s c h w, after_represents s c h w)

  -- no call changes the mark
  mark_after : (s : BookState P K) (c : Call E) → (after R s c).state.mark ≡ s.state.mark
  mark_after s c = go c (accepted (says R s c))
    where
      go : (c : Call E) (q : Bool) → (cond q (changed R s c) s).state.mark ≡ s.state.mark
      go c false = refl
      go (edits e) true = refl
      go opens true = refl
      go (keeps mark depth) true = refl
      go (cancels mark depth) true = refl

  depth_so : (s : BookState P K) (c : Call E) (q : Bool) → length (cond q (changed R s c) s).state.groups ≡ depth_after c q (length s.state.groups)
  depth_so s (edits e) true = length-with_undo_record s.state.groups (undo_record s.state.rows (R.job_of e) (R.next_row s.state.rows e))
  depth_so s (edits e) false = refl
  depth_so s opens true = omega arith
  depth_so s opens false = refl
  depth_so s (keeps mark depth) true = length-merged s.state.groups
  depth_so s (keeps mark depth) false = refl
  depth_so s (cancels mark depth) true = length-outside s.state.groups
  depth_so s (cancels mark depth) false = refl

  pub call_step : (s : BookState P K) (c : Call E) (a : Answer) (s' : BookState P K) → a ≡ says R s c → s' ≡ after R s c → CallStep R s c a s'
  call_step s c a s' e f = record {
    value = e;
    after = f;
    mark = ap (λ (t : BookState P K). t.state.mark) f ∙ mark_after s c;
    depth = ap (λ (t : BookState P K). length t.state.groups) f ∙ depth_so s c (accepted (says R s c)) ∙ ap (λ q. depth_after c q (length s.state.groups)) (sym (ap accepted e));
  }

  -- a new book represents the history in which nothing has happened
  pub fresh_represents : (t : Parameters K) → Represents R (fresh_book R t) begun
  fresh_represents t = ap (λ k. replicate k R.idle) (sym (length-replicate t.jobs R.idle))
