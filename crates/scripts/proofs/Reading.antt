-- From one command of a script to the next.
use Rattle.std.proofs.Common.{◌≡◌, ℕ, suc, ◌+◌, ◌-◌, ◌<◌, ◌≤◌, List, length, drop, drop-drop, IsErrAnd, Result, Ok, Err, Option, Some, None, sym, ap, ◌∙◌, arith}
use Rattle.std.proofs.lemmas.List.{drop_all}
use Rattle.std.specs.Result.{result_err}
use Rattle.scripts.specs.declared.fault.ScriptFault.{ScriptFault}
use Rattle.scripts.specs.declared.tally.Position.{Position}
use Rattle.histories.specs.Rules.{after}
use Rattle.histories.specs.Calls.{cancels}
use Rattle.scripts.specs.Commands.{Command, whole, head}
use Rattle.scripts.specs.ScriptFaults.{refusal_of}
use Rattle.scripts.specs.Scripts.{Progress, CarriesOut, Stops, ReadStep, ReadAll, carried_out, refused, no_command, finishes, faults, steps, unreadable, cancel_groups}
use Rattle.histories.specs.Machines.{book_machine}
use Rattle.store.specs.Plain.{plain, PlainBook}

module _ {unread : List ℕ} {p : Progress PlainBook} {m : ℕ} where
  -- what the reader stands behind after a step
  pub no_command_step : (r : Result (Unit {0}) ScriptFault) (fault : ScriptFault) → IsErrAnd r (λ y. y ≡ fault) → unreadable (head unread) ≡ Some (refusal_of fault) → m ≡ 0 → ReadStep (book_machine plain) unread p (result_err r) p m
  no_command_step (Ok u) fault h e z = absurd h
  no_command_step (Err f) fault h e z = rw (h, z) (no_command e)

  pub stopped_step : {q : Progress PlainBook} (c : Command) (n : ℕ) (r : Result (Unit {0}) ScriptFault) (fault : ScriptFault) → head unread ≡ whole c n → IsErrAnd r (λ y. y ≡ fault) → Stops (book_machine plain) p c fault × (q ≡ p) → m ≡ 0 → ReadStep (book_machine plain) unread p (result_err r) q m
  stopped_step {q} c n (Ok u) fault e h s z = absurd h
  stopped_step {q} c n (Err f) fault e h s z = rw (h, s.1, z) (refused e s.0)

  pub carried_step : {q : Progress PlainBook} (c : Command) (n : ℕ) → head unread ≡ whole c n → CarriesOut (book_machine plain) p c q → n ≡ m → ReadStep (book_machine plain) unread p None q m
  carried_step {q} c n e s z = rw (← z) (carried_out e s)

-- What remains to be read leads where the whole script leads.
pub record Underway (script : List ℕ) (here : Position) (p : Progress PlainBook) (now : Position) (q : Progress PlainBook) : Type 0 where
  pub behind : now.index ≤ now.offset
  pub inside : now.offset ≤ length script
  pub leads : (o : Option ScriptFault) (there : Position) (r : Progress PlainBook) → ReadAll (book_machine plain) (drop now.offset script) now q o there r → ReadAll (book_machine plain) (drop here.offset script) here p o there r

pub underway_next : {script : List ℕ} {here now : Position} {p q r : Progress PlainBook} → Underway script here p now q → (place : ℕ)
    → ReadStep (book_machine plain) (drop now.offset script) q None r (place - now.offset) → (now.offset < place) × (place ≤ length script)
    → Underway script here p (record { offset = place; index = now.index + 1 }) r
underway_next {script} {here} {now} {p} {q} {r} u place step l =
    let on : now.offset + (place - now.offset) ≡ place = omega (arith, l.0) in
    record {
      behind = omega (arith, u.behind, l.0);
      inside = l.1;
      leads = λ o there s reads.
          u.leads o there s (steps step
          (rw (drop-drop (place - now.offset) now.offset script, on) reads));
    }

pub underway_fault : {script : List ℕ} {here now : Position} {p q r : Progress PlainBook} {n : ℕ} → Underway script here p now q → (place : ℕ) (a : Result (Unit {0}) ScriptFault) (fault : ScriptFault)
    → IsErrAnd a (λ y. y ≡ fault) → ReadStep (book_machine plain) (drop now.offset script) q (Some fault) r n → place ≡ now.offset
    → ReadAll (book_machine plain) (drop here.offset script) here p (result_err a) (record { offset = place; index = now.index }) r
underway_fault u place (Ok x) fault h step at = absurd h
underway_fault {script} {here} {now} {p} {q} {r} u place (Err f) fault h step at = rw (h, at) (u.leads (Some fault) now r (faults step))

pub underway_over : {script : List ℕ} {here now : Position} {p q : Progress PlainBook} → Underway script here p now q → length script ≤ now.offset
    → ReadAll (book_machine plain) (drop here.offset script) here p None now q
underway_over {script} {here} {now} {p} {q} u l = u.leads None now q (rw (drop_all now.offset script l) finishes)

pub cancel_groups_next : (s s' t : PlainBook) (n k : ℕ) → k < n → cancel_groups (book_machine plain) (n - k) s ≡ t → s' ≡ after plain s (cancels s.state.mark (length s.state.groups)) → cancel_groups (book_machine plain) (n - (k + 1)) s' ≡ t
cancel_groups_next s s' t n k l e f =
    let one : n - k ≡ suc (n - (k + 1)) = omega (arith, l) in
    ap (cancel_groups (book_machine plain) (n - (k + 1))) f ∙ ap (λ i. cancel_groups (book_machine plain) i s) (sym one) ∙ e
