-- A script's calls: on what counts its groups by its calls, as a book and a history do, a script is the calls that it counts as.
use Rattle.std.proofs.Common.{◌≡◌, ℕ, zero, suc, ◌+◌, ◌-◌, ◌≤◌, Bool, true, false, List, [], ◌∷◌, ◌++◌, length, take, drop, flat_map, Option, Some, None, Result, MatchBool, sym, refl, ap, ◌∙◌, subst, append_assoc, append-nil, arith, nat_lt, IfOk}
use Rattle.std.proofs.lemmas.List.{length-append}
use Rattle.std.proofs.Math.Seq.{take-append_seam}
use Rattle.rows.specs.Waiting.{Waiting}
use Rattle.groups.specs.declared.store.Ending.{Ending}
use Rattle.groups.specs.declared.store.Ending.TheVariants.{Keep, Cancel}
use Rattle.histories.specs.Calls.{accepted, Call, edits, opens, cancels, ends}
use Rattle.histories.specs.CallSteps.{depth_after}
use Rattle.histories.specs.Machines.{Machine, book_machine}
use Rattle.store.specs.Plain.{Edit, plain, PlainBook}
use Rattle.scripts.specs.Commands.{Command, makes, opening, ending, detecting, whole, head}
use Rattle.scripts.specs.Workspace.{Workspace}
use Rattle.scripts.specs.Scripts.{Progress, CarriesOut, edited, opened, ended, answered, carried_out, refused, no_command, ReadAll, finishes, faults, steps, cancel_groups, start, script_answer, RunsCommands, Refused, RunsScript}
use Rattle.scripts.specs.declared.run.TheConstants.{SCRIPT_MAX}
use Rattle.scripts.specs.ScriptCalls.{command_bytes, carried_bytes, script_commands, groups_after, EndsOwnGroups, command_calls, cancelling_calls, after_calls, AllAccepted, CountsAs}
use Rattle.scripts.specs.declared.fault.ScriptFault.{ScriptFault}
use Rattle.scripts.specs.declared.fault.StoppedScript.{StoppedScript}
use Rattle.scripts.specs.declared.fault.FinishedScript.{FinishedScript}
use Rattle.scripts.specs.declared.tally.Position.{Position}
use Rattle.scripts.proofs.CommandBytes.{head_bytes}
use Rattle.scripts.specs.ScriptRuns.{ScriptStep}
use Rattle.scripts.proofs.GroupCounts.{CountsGroups, of_book_counts}

-- groups that commands leave open, among others that they find
groups_after-add : (cs : List Command) (own others : ℕ) → EndsOwnGroups own cs → groups_after (others + own) cs ≡ others + groups_after own cs
groups_after-add [] own others w = refl
groups_after-add (makes e ∷ cs) own others w = groups_after-add cs own others w
groups_after-add (opening ∷ cs) own others w =
    let more : others + own + 1 ≡ others + (own + 1) = omega arith in
    ap (λ k. groups_after k cs) more ∙ groups_after-add cs (own + 1) others w
groups_after-add (ending e ∷ cs) own others w =
    let less : others + own - 1 ≡ others + (own - 1) = omega (arith, w.0) in
    ap (λ k. groups_after k cs) less ∙ groups_after-add cs (own - 1) others w.1
groups_after-add (detecting job ∷ cs) own others w = groups_after-add cs own others w

module _ {X : Type 0} (S : Machine Waiting Edit X) where
  -- Calls that are made, all of them accepted, and what they leave.
  pub record Made (x : X) (calls : List (Call Edit)) (y : X) : Type 0 where
    pub accepted : AllAccepted S x calls
    pub leaves : y ≡ after_calls S x calls

  made_none : (x : X) → Made x [] x
  made_none x = record { accepted = tt; leaves = refl }

  made_first : {x y : X} {c : Call Edit} {calls : List (Call Edit)} → accepted (S.says x c) ≡ true → Made (S.after x c) calls y → Made x (c ∷ calls) y
  made_first a m = record { accepted = (a, m.accepted); leaves = m.leaves }

  made-append : (calls more : List (Call Edit)) {x y z : X} → Made x calls y → Made y more z → Made x (calls ++ more) z
  made-append [] more {x} {y} {z} m n = subst (λ v. Made v more z) m.leaves n
  made-append (c ∷ calls) more m n = made_first m.accepted.0 (made-append calls more (record { accepted = m.accepted.1; leaves = m.leaves }) n)

  module _ (counts : CountsGroups S) where
    -- what an accepted call leaves
    depth_accepted : (x : X) (c : Call Edit) → accepted (S.says x c) ≡ true → S.depth (S.after x c) ≡ depth_after c true (S.depth x)
    depth_accepted x c a = counts.depth x c ∙ ap (λ q. depth_after c q (S.depth x)) a

    depth_ended : (x : X) (e : Ending) (mark depth : ℕ) → accepted (S.says x (ends e mark depth)) ≡ true → S.depth (S.after x (ends e mark depth)) ≡ S.depth x - 1
    depth_ended x Keep mark depth a = depth_accepted x (ends Keep mark depth) a
    depth_ended x Cancel mark depth a = depth_accepted x (ends Cancel mark depth) a

    -- The commands that a script carries out from the bytes unread on, and the bytes behind them.
    pub record Commanded (unread : List ℕ) (here : Position) (p : Progress X) (o : Option ScriptFault) (there : Position) (r : Progress X) : Type 0 where
      pub commands : List Command
      pub rest : List ℕ
      pub bytes : unread ≡ flat_map command_bytes commands ++ rest
      pub over : o ≡ None → rest ≡ []
      pub offset : there.offset ≡ here.offset + length (flat_map command_bytes commands)
      pub index : there.index ≡ here.index + length commands
      pub own : EndsOwnGroups p.groups commands
      pub groups : r.groups ≡ groups_after p.groups commands
      pub made : Made p.current (command_calls (S.mark p.current) (S.depth p.current) commands) r.current
      pub mark : S.mark r.current ≡ S.mark p.current
      pub depth : S.depth r.current ≡ groups_after (S.depth p.current) commands

    -- none
    commanded_none : (unread : List ℕ) (here : Position) (p : Progress X) (o : Option ScriptFault) → (o ≡ None → unread ≡ []) → Commanded unread here p o here p
    commanded_none unread here p o over = record {
      commands = [];
      rest = unread;
      bytes = refl;
      over = over;
      offset = omega arith;
      index = omega arith;
      own = tt;
      groups = refl;
      made = made_none p.current;
      mark = refl;
      depth = refl;
    }

    -- What one more command at the head makes of those behind it: its call, if it is one, and the groups after it.
    record First (p : Progress X) (c : Command) (q : Progress X) : Type 0 where
      own : (cs : List Command) → EndsOwnGroups q.groups cs → EndsOwnGroups p.groups (c ∷ cs)
      groups : (cs : List Command) → groups_after p.groups (c ∷ cs) ≡ groups_after q.groups cs
      depth : (cs : List Command) → groups_after (S.depth p.current) (c ∷ cs) ≡ groups_after (S.depth q.current) cs
      mark : S.mark q.current ≡ S.mark p.current
      made : (cs : List Command) {y : X} → Made q.current (command_calls (S.mark q.current) (S.depth q.current) cs) y → Made p.current (command_calls (S.mark p.current) (S.depth p.current) (c ∷ cs)) y

    -- a call that the command makes
    made_call : (x : X) (c : Call Edit) (d : ℕ) (cs : List Command) {y : X} → accepted (S.says x c) ≡ true → S.depth (S.after x c) ≡ d
        → Made (S.after x c) (command_calls (S.mark (S.after x c)) (S.depth (S.after x c)) cs) y → Made x (c ∷ command_calls (S.mark x) d cs) y
    made_call x c d cs {y} a e m =
        made_first a
        (subst (λ n. Made (S.after x c) (command_calls (S.mark x) n cs) y) e
        (subst (λ n. Made (S.after x c) (command_calls n (S.depth (S.after x c)) cs) y) (counts.mark x c) m))

    first : {p q : Progress X} {c : Command} → CarriesOut S p c q → First p c q
    first {p} (edited {e = e} a) =
        let taken = ap accepted a in
        let d = depth_accepted p.current (edits e) taken in
        record {
          own = λ cs w. w;
          groups = λ cs. refl;
          depth = λ cs. ap (λ k. groups_after k cs) (sym d);
          mark = counts.mark p.current (edits e);
          made = λ cs m. made_call p.current (edits e) _ cs taken d m;
        }
    first {p} (opened a) =
        let taken = ap accepted a in
        let d = depth_accepted p.current opens taken in
        record {
          own = λ cs w. w;
          groups = λ cs. refl;
          depth = λ cs. ap (λ k. groups_after k cs) (sym d);
          mark = counts.mark p.current opens;
          made = λ cs m. made_call p.current opens _ cs taken d m;
        }
    first {p} (ended {e = e} l a) =
        let call = ends e (S.mark p.current) (S.depth p.current) in
        let taken = ap accepted a in
        let d = depth_ended p.current e (S.mark p.current) (S.depth p.current) taken in
        record {
          own = λ cs w. (l, w);
          groups = λ cs. refl;
          depth = λ cs. ap (λ k. groups_after k cs) (sym d);
          mark = counts.mark p.current call;
          made = λ cs m. made_call p.current call _ cs taken d m;
        }
    first (answered l a) = record { own = λ cs w. w; groups = λ cs. refl; depth = λ cs. refl; mark = refl; made = λ cs m. m }

    commanded_first : {unread : List ℕ} {here there : Position} {p q r : Progress X} {o : Option ScriptFault} (c : Command) (n : ℕ) → head unread ≡ whole c n → CarriesOut S p c q
        → Commanded (drop n unread) (record { offset = here.offset + n; index = here.index + 1 }) q o there r → Commanded unread here p o there r
    commanded_first {unread} {here} {there} {p} {q} {r} c n e w k =
        let b = head_bytes c n unread e in
        let f = first w in
        record {
          commands = c ∷ k.commands;
          rest = k.rest;
          bytes = b.first ∙ ap (λ bs. command_bytes c ++ bs) k.bytes ∙ sym (append_assoc (command_bytes c) (flat_map command_bytes k.commands) k.rest);
          over = k.over;
          offset = omega (arith, k.offset, b.count, length-append (command_bytes c) (flat_map command_bytes k.commands));
          index = omega (arith, k.index);
          own = f.own k.commands k.own;
          groups = k.groups ∙ sym (f.groups k.commands);
          made = f.made k.commands k.made;
          mark = k.mark ∙ f.mark;
          depth = k.depth ∙ sym (f.depth k.commands);
        }

    commanded : {unread : List ℕ} {here there : Position} {p r : Progress X} {o : Option ScriptFault} → ReadAll S unread here p o there r → Commanded unread here p o there r
    commanded {here = here} {p = p} finishes = commanded_none [] here p None (λ e. refl)
    commanded {unread} {here} {p = p} (faults {fault = fault} (refused e a)) = commanded_none unread here p (Some fault) (λ e. absurd (cc e))
    commanded {unread} {here} {p = p} (faults {fault = fault} (no_command e)) = commanded_none unread here p (Some fault) (λ e. absurd (cc e))
    commanded (steps (carried_out {c = c} {n = n} e a) b) = commanded_first c n e a (commanded b)

    -- The innermost groups, cancelled.
    record Cancelled (x : X) (groups : ℕ) : Type 0 where
      made : Made x (cancelling_calls (S.mark x) (S.depth x) groups) (cancel_groups S groups x)
      depth : S.depth (cancel_groups S groups x) ≡ S.depth x - groups

    cancelled_groups : (groups : ℕ) (x : X) → groups ≤ S.depth x → Cancelled x groups
    cancelled_groups zero x l = record { made = made_none x; depth = omega arith }
    cancelled_groups (suc groups) x l =
        let call : Call Edit = cancels (S.mark x) (S.depth x) in
        let taken = ap accepted (counts.cancels x (omega (arith, l))) in
        let d : S.depth (S.after x call) ≡ S.depth x - 1 = depth_accepted x call taken in
        let k = cancelled_groups groups (S.after x call) (omega (arith, l, d)) in
        record {
          made =
              made_first taken
              (subst (λ m. Made (S.after x call) (cancelling_calls m (S.depth x - 1) groups) (cancel_groups S groups (S.after x call))) (counts.mark x call)
              (subst (λ m. Made (S.after x call) (cancelling_calls (S.mark (S.after x call)) m groups) (cancel_groups S groups (S.after x call))) d k.made));
          depth = omega (arith, k.depth, d);
        }

    -- What the answer tells of the commands.
    record Told (script : List ℕ) (commands : List Command) (a : Result FinishedScript StoppedScript) : Type 0 where
      bytes : flat_map command_bytes commands ≡ carried_bytes script a
      number : length commands ≡ script_commands a
      cancelled : IfOk a (λ finished. finished.cancelled ≡ groups_after 0 commands)

    told : {script : List ℕ} {x : X} {l : Workspace} {there : Position} {r : Progress X} (o : Option ScriptFault)
        → (k : Commanded script (record { offset = 0; index = 0 }) (start S x l) o there r) → Told script k.commands (script_answer S o there r)
    told {script} None k =
        let bytes = flat_map command_bytes k.commands in
        record {
          bytes = sym (k.bytes ∙ ap (λ bs. bytes ++ bs) (k.over refl) ∙ append-nil bytes);
          number = omega (arith, k.index);
          cancelled = k.groups;
        }
    told {script} {there = there} (Some fault) k =
        let bytes = flat_map command_bytes k.commands in
        let end : there.offset ≡ length bytes = omega (arith, k.offset) in
        record {
          bytes = sym (ap (λ n. take n script) end ∙ ap (take (length bytes)) k.bytes ∙ take-append_seam bytes k.rest);
          number = omega (arith, k.index);
          cancelled = tt;
        }

    pub worked_counts : {x y : X} {l m : Workspace} {script : List ℕ} {a : Result FinishedScript StoppedScript} → RunsCommands S x l script a y m → CountsAs S x script a y
    worked_counts {x} {y} {l} {script = script} {a = a} w =
        let k = commanded w.reads in
        let t = subst (λ b. Told script k.commands b) (sym w.says) (told w.fault k) in
        let r = w.last.current in
        let open_still = groups_after 0 k.commands in
        let among : S.depth r ≡ S.depth x + open_still =
        k.depth ∙ ap (λ n. groups_after n k.commands) (omega arith) ∙ groups_after-add k.commands 0 (S.depth x) k.own in
        let ended = cancelled_groups w.last.groups r (omega (arith, among, k.groups)) in
        let back : S.depth r - w.last.groups ≡ S.depth x = omega (arith, among, k.groups) in
        let made = made-append (command_calls (S.mark x) (S.depth x) k.commands) (cancelling_calls (S.mark x) (groups_after (S.depth x) k.commands) open_still) k.made
        (rw (← k.mark, ← k.depth, ← k.groups) ended.made) in
        record {
          commands = k.commands;
          bytes = t.bytes;
          number = t.number;
          own = k.own;
          cancelled = t.cancelled;
          accepted = made.accepted;
          leaves = w.leaves ∙ made.leaves;
          depth = ap S.depth w.leaves ∙ ended.depth ∙ back;
        }

    -- a script that is too long is no call
    pub refused_counts : {x y : X} {l m : Workspace} {script : List ℕ} {a : Result FinishedScript StoppedScript} → Refused S x l a y m → CountsAs S x script a y
    refused_counts {x} {y} {script = script} w =
        rw (w.says, w.leaves)
        (record { commands = []; bytes = refl; number = refl; own = tt; cancelled = tt; accepted = tt; leaves = refl; depth = refl })

    counts_if : (q : Bool) {x y : X} (l m : Workspace) (script : List ℕ) (a : Result FinishedScript StoppedScript)
        → MatchBool q (Refused S x l a y m) (RunsCommands S x l script a y m) → CountsAs S x script a y
    counts_if true l m script a w = refused_counts w
    counts_if false l m script a w = worked_counts w

    pub scripted_counts : {x y : X} (l m : Workspace) (script : List ℕ) (a : Result FinishedScript StoppedScript) → RunsScript S x l script a y m → CountsAs S x script a y
    scripted_counts l m script a w = counts_if (nat_lt SCRIPT_MAX (length script)) l m script a w

-- a script that a book runs
pub ran_counts : {s s' : PlainBook} {l l' : Workspace} {script : List ℕ} {a : Result FinishedScript StoppedScript} → ScriptStep s l script a s' l' → CountsAs (book_machine plain) s script a s'
ran_counts {l = l} {l' = l'} {script = script} {a = a} r = scripted_counts (book_machine plain) (of_book_counts plain) l l' script a r.does
