-- A book beside a history that it represents: they answer alike, and go on alike.
use Rattle.std.proofs.Common.{◌≡◌, Bool, true, false, cond, length, replicate, refl, ap, ◌∙◌, subst}
use Rattle.std.proofs.lemmas.List.{length-replicate}
use Rattle.groups.specs.declared.store.Ending.{Ending}
use Rattle.groups.specs.History.{History, begun}
use Rattle.groups.specs.State.{summary}
use Rattle.groups.proofs.RepresentationLemmas.{represents_summary}
use Rattle.histories.specs.Calls.{accepted, Call, edits, opens, keeps, cancels, ends}
use Rattle.histories.specs.Rules.{Parameters, BookState, parameters, Rules, fresh_book, says, after, changed}
use Rattle.histories.specs.Histories.{summary_of, answers, history_after}
use Rattle.histories.specs.CallSteps.{Represents}
use Rattle.histories.specs.Machines.{book_machine, history_machine, view_of}
use Rattle.histories.proofs.SimulationLemmas.{length-changed, says_answers, after_represents, fresh_represents}

module _ {P E K : Type 0} (R : Rules P E K) where
  -- no call changes what creation was told
  parameters_changed : (s : BookState P K) (c : Call E) → parameters (changed R s c) ≡ parameters s
  parameters_changed s (edits e) = ap (λ n. record { jobs = n; mark = s.state.mark; trail_room = s.state.trail_room; fixed = s.fixed }) (length-changed R s (edits e))
  parameters_changed s opens = refl
  parameters_changed s (keeps mark depth) = refl
  parameters_changed s (cancels mark depth) = ap (λ n. record { jobs = n; mark = s.state.mark; trail_room = s.state.trail_room; fixed = s.fixed }) (length-changed R s (cancels mark depth))

  parameters_after : (s : BookState P K) (c : Call E) → parameters (after R s c) ≡ parameters s
  parameters_after s c = go (accepted (says R s c))
    where
      go : (q : Bool) → parameters (cond q (changed R s c) s) ≡ parameters s
      go true = parameters_changed s c
      go false = refl

  -- A book of these parameters that represents a history.
  pub record Stands (t : Parameters K) (s : BookState P K) (h : History E) : Type 0 where
    pub same_parameters : parameters s ≡ t
    pub represents : Represents R s h

  module _ (t : Parameters K) {s : BookState P K} {h : History E} (w : Stands t s h) where
    pub same_summary : summary s.state ≡ summary_of R t h
    same_summary = represents_summary R.job_of R.next_row (replicate (length s.state.rows) R.idle) s.state h w.represents ∙ ap (λ u. summary_of R u h) w.same_parameters

    pub same_rows : s.state.rows ≡ (summary_of R t h).rows
    same_rows = ap (λ f. f.rows) same_summary

    pub same_depth : length s.state.groups ≡ (summary_of R t h).depth
    same_depth = ap (λ f. f.depth) same_summary

    pub same_mark : s.state.mark ≡ t.mark
    same_mark = ap (λ (u : Parameters K). u.mark) w.same_parameters

    pub same_answer : (c : Call E) → says R s c ≡ answers R t h c
    same_answer c = says_answers R s c h w.represents ∙ ap (λ u. answers R u h c) w.same_parameters

    pub stands_after : (c : Call E) → Stands t (after R s c) (history_after R t h c)
    stands_after c = record { same_parameters = parameters_after s c ∙ w.same_parameters; represents = subst (λ u. Represents R (after R s c) (history_after R u h c)) w.same_parameters (after_represents R s c h w.represents) }

    pub same_ending : (e : Ending) → ◌≡◌ {A = Call E} (ends e s.state.mark (length s.state.groups)) (ends e t.mark (summary_of R t h).depth)
    same_ending e = ap (λ m. ends {E = E} e m (length s.state.groups)) same_mark ∙ ap (ends {E = E} e t.mark) same_depth

    pub same_view : view_of (book_machine R) s ≡ view_of (history_machine R t) h
    same_view = ap (λ rows. record { rows = rows; depth = length s.state.groups }) same_rows ∙ ap (λ d. record { rows = (summary_of R t h).rows; depth = d }) same_depth

  -- so it is at creation
  pub fresh_stands : (t : Parameters K) → Stands t (fresh_book R t) begun
  fresh_stands t = record {
    same_parameters = ap (λ n. record { jobs = n; mark = t.mark; trail_room = t.trail_room; fixed = t.fixed }) (length-replicate t.jobs R.idle);
    represents = fresh_represents R t;
  }
