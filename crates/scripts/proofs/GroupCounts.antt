-- The calls of a book, and those of a history, count the open groups.
use Rattle.std.proofs.Common.{◌≡◌, ◌<◌, Bool, true, false, cond, [], ◌∷◌, refl, ap, arith}
use Rattle.std.proofs.lemmas.Bool.{and_from, eq-eqb, lt-ltb}
use Rattle.groups.specs.History.{History, history}
use Rattle.groups.specs.State.{Summary, summary}
use Rattle.histories.specs.Calls.{done, accepted, not_innermost, Call, edits, opens, keeps, cancels}
use Rattle.histories.specs.Histories.{answers, summary_of, lists_after}
use Rattle.histories.specs.CallSteps.{depth_after}
use Rattle.histories.specs.Rules.{Parameters, parameters, Rules, says, after, ending_answer}
use Rattle.histories.specs.Machines.{Machine, book_machine, history_machine}
use Rattle.histories.proofs.SimulationLemmas.{call_step}

-- No call changes the mark, an accepted one changes the depth as it says, and the innermost group can be cancelled.
pub record CountsGroups {P E X : Type 0} (S : Machine P E X) : Type 0 where
  pub mark : (x : X) (c : Call E) → S.mark (S.after x c) ≡ S.mark x
  pub depth : (x : X) (c : Call E) → S.depth (S.after x c) ≡ depth_after c (accepted (S.says x c)) (S.depth x)
  pub cancels : (x : X) → 0 < S.depth x → S.says x (cancels (S.mark x) (S.depth x)) ≡ done

module _ {P E K : Type 0} (R : Rules P E K) where
  fitting_ending : (t : Parameters K) (f : Summary P) → 0 < f.depth → ending_answer R t f t.mark f.depth ≡ done
  fitting_ending t f l =
      ap (λ q. cond q done (not_innermost t.mark f.depth))
      (and_from _ _ (eq-eqb t.mark t.mark refl) (and_from _ _ (eq-eqb f.depth f.depth refl) (lt-ltb 0 f.depth l)))

  pub of_book_counts : CountsGroups (book_machine R)
  of_book_counts = record {
    mark = λ b c. (call_step R b c (says R b c) (after R b c) refl refl).mark;
    depth = λ b c. (call_step R b c (says R b c) (after R b c) refl refl).depth;
    cancels = λ b l. fitting_ending (parameters b) (summary b.state) l;
  }

  module _ (t : Parameters K) where
    depth_of_lists_after : (h : History E) (c : Call E) (q : Bool) → (summary_of R t (cond q (lists_after h c) h)).depth ≡ depth_after c q (summary_of R t h).depth
    depth_of_lists_after h (edits e) false = refl
    depth_of_lists_after h opens false = refl
    depth_of_lists_after h (keeps mark depth) false = refl
    depth_of_lists_after h (cancels mark depth) false = refl
    depth_of_lists_after (history o []) (edits e) true = refl
    depth_of_lists_after (history o (g ∷ gs)) (edits e) true = refl
    depth_of_lists_after (history o gs) opens true = omega arith
    depth_of_lists_after (history o []) (keeps mark depth) true = refl
    depth_of_lists_after (history o (g ∷ [])) (keeps mark depth) true = refl
    depth_of_lists_after (history o (g ∷ (h ∷ gs))) (keeps mark depth) true = omega arith
    depth_of_lists_after (history o []) (cancels mark depth) true = refl
    depth_of_lists_after (history o (g ∷ gs)) (cancels mark depth) true = omega arith

    pub of_history_counts : CountsGroups (history_machine R t)
    of_history_counts = record {
      mark = λ h c. refl;
      depth = λ h c. depth_of_lists_after h c (accepted (answers R t h c));
      cancels = λ h l. fitting_ending t (summary_of R t h) l;
    }
