-- A script on a book is the same script on whatever history the book represents.
use Rattle.std.proofs.Common.{◌≡◌, ℕ, zero, suc, ◌≤◌, Bool, true, false, List, length, Option, Some, None, Result, Ok, MatchBool, sym, refl, ap, ◌∙◌, subst, nat_lt}
use Rattle.std.proofs.lemmas.Bool.{le-ltb}
use Rattle.groups.specs.History.{History}
use Rattle.detection.specs.Detected.{stop, Detects}
use Rattle.scripts.specs.declared.fault.ScriptFault.{ScriptFault}
use Rattle.scripts.specs.declared.fault.StoppedScript.{StoppedScript}
use Rattle.scripts.specs.declared.fault.FinishedScript.{FinishedScript}
use Rattle.scripts.specs.declared.tally.Position.{Position}
use Rattle.histories.specs.Rules.{says, after}
use Rattle.store.specs.Plain.{Edit, plain, PlainBook, Fixed}
use Rattle.histories.specs.Calls.{edits, opens, cancels, ends}
use Rattle.scripts.specs.Commands.{Command}
use Rattle.histories.specs.Histories.{summary_of, history_after}
use Rattle.histories.specs.Rules.{Parameters, parameters}
use Rattle.scripts.specs.Workspace.{Workspace}
use Rattle.scripts.specs.ScriptRuns.{ScriptStep}
use Rattle.scripts.specs.Scripts.{Progress, CarriesOut, edited, opened, ended, answered, Stops, not_edited, not_opened, no_group, no_space, not_detected, ReadStep, carried_out, refused, no_command, ReadAll, finishes, faults, steps, cancel_groups, script_answer, RunsCommands, Refused, RunsScript}
use Rattle.scripts.specs.declared.run.TheConstants.{SCRIPT_MAX}
use Rattle.histories.specs.Machines.{book_machine, history_machine}
use Rattle.histories.proofs.BookBesideHistory.{Stands, same_answer, stands_after, same_ending, same_rows, same_mark, same_depth}

module _ (t : Parameters Fixed) where
  -- the same progress, on a history
  abbrev on : Progress PlainBook → History Edit → Progress (History Edit)
  on p h = record { current = h; workspace = p.workspace; written = p.written; groups = p.groups }

  carries_so : {p q : Progress PlainBook} {c : Command} {h : History Edit} → Stands plain t p.current h → CarriesOut (book_machine plain) p c q
      → (i : History Edit) × CarriesOut (history_machine plain t) (on p h) c (on q i) × Stands plain t q.current i
  carries_so {p} {h = h} w (edited {e = e} a) = (history_after plain t h (edits e), edited (sym (same_answer plain t w (edits e)) ∙ a), stands_after plain t w (edits e))
  carries_so {p} {h = h} w (opened a) = (history_after plain t h opens, opened (sym (same_answer plain t w opens) ∙ a), stands_after plain t w opens)
  carries_so {p} {h = h} w (ended {e = e} l a) =
      let s = p.current in
      let call = ends e t.mark (summary_of plain t h).depth in
      let same = same_ending plain t w e in (
        history_after plain t h call,
        ended l (sym (same_answer plain t w call) ∙ ap (says plain s) (sym same) ∙ a),
        subst (λ k. Stands plain t (after plain s k) (history_after plain t h call)) (sym same) (stands_after plain t w call),
      )
  carries_so {p} {h = h} w (answered {job = job} {d = d} {is = is} {after = carrier} l a) =
      (h, answered l (subst (λ rows. Detects rows job p.workspace.records is p.workspace.carrier carrier (Ok d)) (same_rows plain t w) a), w)

  stops_so : {p : Progress PlainBook} {c : Command} {fault : ScriptFault} {h : History Edit} → Stands plain t p.current h → Stops (book_machine plain) p c fault → Stops (history_machine plain t) (on p h) c fault
  stops_so w (not_edited {e = e} a r) = not_edited (sym (same_answer plain t w (edits e)) ∙ a) r
  stops_so w (not_opened a r) = not_opened (sym (same_answer plain t w opens) ∙ a) r
  stops_so w (no_group z r) = no_group z r
  stops_so w (no_space l r) = no_space l r
  stops_so {p} w (not_detected {job = job} l a r) = not_detected l (ap (λ rows. stop rows job (length p.workspace.records) p.workspace.carrier) (sym (same_rows plain t w)) ∙ a) r

  steps_so : {unread : List ℕ} {p q : Progress PlainBook} {o : Option ScriptFault} {n : ℕ} {h : History Edit} → Stands plain t p.current h → ReadStep (book_machine plain) unread p o q n
      → (i : History Edit) × ReadStep (history_machine plain t) unread (on p h) o (on q i) n × Stands plain t q.current i
  steps_so w (carried_out e a) = let r = carries_so w a in (r.0, carried_out e r.1, r.2)
  steps_so {h = h} w (refused e a) = (h, refused e (stops_so w a), w)
  steps_so {h = h} w (no_command e) = (h, no_command e, w)

  reads_so : {unread : List ℕ} {here there : Position} {p r : Progress PlainBook} {o : Option ScriptFault} {h : History Edit} → Stands plain t p.current h → ReadAll (book_machine plain) unread here p o there r
      → (i : History Edit) × ReadAll (history_machine plain t) unread here (on p h) o there (on r i) × Stands plain t r.current i
  reads_so {h = h} w finishes = (h, finishes, w)
  reads_so w (faults a) = let r = steps_so w a in (r.0, faults r.1, r.2)
  reads_so w (steps a b) =
      let q = steps_so w a in
      let r = reads_so q.2 b in
      (r.0, steps q.1 r.1, r.2)

  cancelled_so : (n : ℕ) {s : PlainBook} {h : History Edit} → Stands plain t s h → Stands plain t (cancel_groups (book_machine plain) n s) (cancel_groups (history_machine plain t) n h)
  cancelled_so zero w = w
  cancelled_so (suc n) {s} {h} w =
      let call = cancels t.mark (summary_of plain t h).depth in
      let same = ap (λ m. cancels m (length s.state.groups)) (same_mark plain t w) ∙ ap (cancels t.mark) (same_depth plain t w) in
      cancelled_so n (subst (λ k. Stands plain t (after plain s k) (history_after plain t h call)) (sym same) (stands_after plain t w call))

  answer_so : (o : Option ScriptFault) (there : Position) (p : Progress PlainBook) (h : History Edit) → script_answer (book_machine plain) o there p ≡ script_answer (history_machine plain t) o there (on p h)
  answer_so None there p h = refl
  answer_so (Some fault) there p h = refl

  pub worked_so : {s s' : PlainBook} {l l' : Workspace} {script : List ℕ} {a : Result FinishedScript StoppedScript} {h : History Edit} → Stands plain t s h → RunsCommands (book_machine plain) s l script a s' l'
      → (i : History Edit) × RunsCommands (history_machine plain t) h l script a i l' × Stands plain t s' i
  worked_so {h = h} w k =
      let r = reads_so w k.reads in (
        cancel_groups (history_machine plain t) k.last.groups r.0,
        record { fault = k.fault; there = k.there; last = on k.last r.0; reads = r.1; says = k.says ∙ answer_so k.fault k.there k.last r.0; leaves = refl; hands_back = k.hands_back },
        subst (λ x. Stands plain t x (cancel_groups (history_machine plain t) k.last.groups r.0)) (sym k.leaves) (cancelled_so k.last.groups r.2),
      )

  scripted_if : (q : Bool) {s s' : PlainBook} (l l' : Workspace) (script : List ℕ) (a : Result FinishedScript StoppedScript) {h : History Edit} → Stands plain t s h
      → MatchBool q (Refused (book_machine plain) s l a s' l') (RunsCommands (book_machine plain) s l script a s' l')
      → (i : History Edit) × MatchBool q (Refused (history_machine plain t) h l a i l') (RunsCommands (history_machine plain t) h l script a i l') × Stands plain t s' i
  scripted_if true l l' script a {h} w k = (h, record { fault = k.fault; too_long = k.too_long; says = k.says; leaves = refl; hands_back = k.hands_back }, subst (λ x. Stands plain t x h) (sym k.leaves) w)
  scripted_if false l l' script a w k = worked_so w k

  pub scripted_so : {s s' : PlainBook} (l l' : Workspace) (script : List ℕ) (a : Result FinishedScript StoppedScript) {h : History Edit} → Stands plain t s h → RunsScript (book_machine plain) s l script a s' l'
      → (i : History Edit) × RunsScript (history_machine plain t) h l script a i l' × Stands plain t s' i
  scripted_so l l' script a w k = scripted_if (nat_lt SCRIPT_MAX (length script)) l l' script a w k

pub ran : {s s' : PlainBook} (l l' : Workspace) (script : List ℕ) (a : Result FinishedScript StoppedScript) → RunsScript (book_machine plain) s l script a s' l' → ScriptStep s l script a s' l'
ran {s} l l' script a k = record { does = k; represents = λ h w. let r = scripted_so (parameters s) l l' script a (record { same_parameters = refl; represents = w }) k in (r.0, r.1, r.2.represents) }

-- a script that is not too long
pub worked_ran : {s s' : PlainBook} {l l' : Workspace} {script : List ℕ} {a : Result FinishedScript StoppedScript} → length script ≤ SCRIPT_MAX → RunsCommands (book_machine plain) s l script a s' l' → ScriptStep s l script a s' l'
worked_ran {s} {s'} {l} {l'} {script} {a} fits k =
    ran l l' script a (subst (λ q. MatchBool q (Refused (book_machine plain) s l a s' l') (RunsCommands (book_machine plain) s l script a s' l')) (sym (le-ltb SCRIPT_MAX (length script) fits)) k)
