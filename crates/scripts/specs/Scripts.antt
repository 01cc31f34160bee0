-- What a script does: its commands one after the other, to the first fault or to the end; and then its open groups are cancelled.
use Rattle.std.specs.Prelude.{◌≡◌, ℕ, zero, suc, ◌+◌, ◌-◌, ◌/◌, ◌%◌, ◌<◌, ◌≤◌, List, [], ◌∷◌, ◌++◌, length, take, drop, Some, None, Ok, Err, MatchBool, Option, Result, nat_lt}
use Rattle.carriers.specs.Carriers.{Carried}
use Rattle.exchange.specs.declared.record.RunRecord.{RunRecord}
use Rattle.detection.specs.Detected.{stop, Detects}
use Rattle.detection.specs.declared.verdict.Detection.{Detection}
use Rattle.detection.specs.declared.verdict.Verdict.{Verdict}
use Rattle.detection.specs.declared.verdict.Verdict.TheVariants.{Stuck, Free}
use Rattle.rows.specs.Waiting.{Waiting}
use Rattle.groups.specs.declared.store.Ending.{Ending}
use Rattle.histories.specs.Calls.{done, ticket, stopped, Call, edits, opens, cancels, ends}
use Rattle.store.specs.Plain.{Edit}
use Rattle.scripts.specs.Commands.{Command, makes, opening, ending, detecting, Head, over, unknown, cut, whole, head}
use Rattle.scripts.specs.Workspace.{Workspace}
use Rattle.scripts.specs.declared.answer.TheConstants.{DETECTION_BYTES}
use Rattle.scripts.specs.declared.run.TheConstants.{SCRIPT_MAX}
use Rattle.histories.specs.Machines.{Machine}
use Rattle.scripts.specs.declared.fault.ScriptFault.{ScriptFault}
use Rattle.scripts.specs.ScriptFaults.{LayeredRefusal, refusal_of, by_script, by_book, by_detection}
use Rattle.scripts.specs.declared.fault.StoppedScript.{StoppedScript}
use Rattle.scripts.specs.declared.fault.FinishedScript.{FinishedScript}
use Rattle.scripts.specs.declared.tally.Position.{Position}

-- How far a script has come: the book or the history, what is lent, how many bytes it has written and how many groups it has open.
pub record Progress (X : Type 0) : Type 0 where
  pub current : X
  pub workspace : Workspace
  pub written : ℕ
  pub groups : ℕ

-- The byte of a verdict.
abbrev pub verdict_byte : Verdict → ℕ
verdict_byte Stuck = 1
verdict_byte Free = 0

-- The four bytes of a detection: the job, 1 if it is stuck and else 0, and the deliveries as 16 bits, the high byte first.
abbrev pub answer_bytes : (job : ℕ) → Detection → List ℕ
answer_bytes job d = job ∷ verdict_byte d.verdict ∷ d.deliveries / 256 ∷ d.deliveries % 256 ∷ []

-- They stand behind those already written.
abbrev pub with_answer : (bytes : List ℕ) (written : ℕ) → List ℕ → List ℕ
with_answer bytes written answer = take written bytes ++ (answer ++ drop (written + length answer) bytes)

-- Why bytes are no command. 14: the first is no command's letter. 15: they end inside the command.
abbrev pub unreadable : Head → Option LayeredRefusal
unreadable over = None
unreadable unknown = Some (by_script 14)
unreadable cut = Some (by_script 15)
unreadable (whole c n) = None

module _ {X : Type 0} (S : Machine Waiting Edit X) where
  -- How far a script is after a call, with so many groups of its own open.
  abbrev pub after_call : Progress X → Call Edit → (groups : ℕ) → Progress X
  after_call p c groups = record p { current = S.after p.current c; groups = groups }

  -- The ending of the innermost group, as its ticket would.
  abbrev pub ends_innermost : X → Ending → Call Edit
  ends_innermost x e = ends e (S.mark x) (S.depth x)

  -- How far it is after an accepted detection.
  abbrev pub after_detection : Progress X → (job : ℕ) → Detection → (is : List RunRecord) (after : Carried) → Progress X
  after_detection p job d is after = record p {
    workspace = record { records = is; carrier = after; bytes = with_answer p.workspace.bytes p.written (answer_bytes job d) };
    written = p.written + DETECTION_BYTES;
  }

  -- A command is carried out.
  pub data CarriesOut : Progress X → Command → Progress X → Type 0 where
    edited : {p : Progress X} {e : Edit} → S.says p.current (edits e) ≡ done → CarriesOut p (makes e) (after_call p (edits e) p.groups)
    opened : {p : Progress X} {mark depth : ℕ} → S.says p.current opens ≡ ticket mark depth → CarriesOut p opening (after_call p opens (p.groups + 1))
    ended : {p : Progress X} {e : Ending} → 0 < p.groups → S.says p.current (ends_innermost p.current e) ≡ done
        → CarriesOut p (ending e) (after_call p (ends_innermost p.current e) (p.groups - 1))
    answered : {p : Progress X} {job : ℕ} {d : Detection} {is : List RunRecord} {after : Carried} → p.written + DETECTION_BYTES ≤ length p.workspace.bytes
        → Detects (S.rows p.current) job p.workspace.records is p.workspace.carrier after (Ok d) → CarriesOut p (detecting job) (after_detection p job d is after)

  -- A fault stops a command: the script's own checks come first, 16 and 17, and then those of the call. Which fault it is, is told by the
  -- refusal's layer, number and value.
  pub data Stops : Progress X → Command → ScriptFault → Type 0 where
    not_edited : {p : Progress X} {e : Edit} {number : ℕ} {value : Option ℕ} {fault : ScriptFault} → S.says p.current (edits e) ≡ stopped number value
        → refusal_of fault ≡ by_book number value → Stops p (makes e) fault
    not_opened : {p : Progress X} {number : ℕ} {value : Option ℕ} {fault : ScriptFault} → S.says p.current opens ≡ stopped number value
        → refusal_of fault ≡ by_book number value → Stops p opening fault
    no_group : {p : Progress X} {e : Ending} {fault : ScriptFault} → p.groups ≡ 0 → refusal_of fault ≡ by_script 16 → Stops p (ending e) fault
    no_space : {p : Progress X} {job : ℕ} {fault : ScriptFault} → length p.workspace.bytes < p.written + DETECTION_BYTES → refusal_of fault ≡ by_script 17
        → Stops p (detecting job) fault
    not_detected : {p : Progress X} {job number : ℕ} {fault : ScriptFault} → p.written + DETECTION_BYTES ≤ length p.workspace.bytes
        → stop (S.rows p.current) job (length p.workspace.records) p.workspace.carrier ≡ Some number → refusal_of fault ≡ by_detection number
        → Stops p (detecting job) fault

  -- The command at the head of the bytes unread: it is carried out, and so many bytes are read; or there is a fault, and nothing changes.
  pub data ReadStep : (unread : List ℕ) → Progress X → Option ScriptFault → Progress X → (bytes : ℕ) → Type 0 where
    carried_out : {unread : List ℕ} {p q : Progress X} {c : Command} {n : ℕ} → head unread ≡ whole c n → CarriesOut p c q → ReadStep unread p None q n
    refused : {unread : List ℕ} {p : Progress X} {c : Command} {n : ℕ} {fault : ScriptFault} → head unread ≡ whole c n → Stops p c fault → ReadStep unread p (Some fault) p 0
    no_command : {unread : List ℕ} {p : Progress X} {fault : ScriptFault} → unreadable (head unread) ≡ Some (refusal_of fault) → ReadStep unread p (Some fault) p 0

  -- So many bytes further on stands the next command.
  abbrev pub next : Position → (bytes : ℕ) → Position
  next here bytes = record { offset = here.offset + bytes; index = here.index + 1 }

  -- From the bytes unread: to their end, or to the first fault. A position tells where the next command begins, and how many were
  -- carried out before it.
  pub data ReadAll : (unread : List ℕ) → Position → Progress X → Option ScriptFault → Position → Progress X → Type 0 where
    finishes : {here : Position} {p : Progress X} → ReadAll [] here p None here p
    faults : {unread : List ℕ} {here : Position} {p q : Progress X} {n : ℕ} {fault : ScriptFault} → ReadStep unread p (Some fault) q n → ReadAll unread here p (Some fault) here q
    steps : {unread : List ℕ} {here there : Position} {p q r : Progress X} {n : ℕ} {o : Option ScriptFault} → ReadStep unread p None q n → ReadAll (drop n unread) (next here n) q o there r → ReadAll unread here p o there r

  -- The innermost groups, so many, are cancelled.
  abbrev pub cancel_groups : (groups : ℕ) → X → X
  cancel_groups zero x = x
  cancel_groups (suc groups) x = cancel_groups groups (S.after x (cancels (S.mark x) (S.depth x)))

  -- At first nothing is written, and the script has no group open.
  abbrev pub start : X → Workspace → Progress X
  start x workspace = record { current = x; workspace = workspace; written = 0; groups = 0 }

  -- The answer of a script: what was carried out, how many groups were cancelled at its end, and the bytes written; or its fault.
  abbrev pub script_answer : Option ScriptFault → Position → Progress X → Result FinishedScript StoppedScript
  script_answer None there p = Ok (record { commands = there.index; cancelled = p.groups; written = p.written })
  script_answer (Some fault) there p = Err (record { fault = fault; offset = there.offset; index = there.index; written = p.written })

  -- A script that is not too long: commands to the end or to a fault, and then its open groups are cancelled.
  pub record RunsCommands (x : X) (workspace : Workspace) (script : List ℕ) (answer : Result FinishedScript StoppedScript) (x' : X) (workspace' : Workspace) : Type 0 where
    pub fault : Option ScriptFault
    pub there : Position
    pub last : Progress X
    pub reads : ReadAll script (record { offset = 0; index = 0 }) (start x workspace) fault there last
    pub says : answer ≡ script_answer fault there last
    pub leaves : x' ≡ cancel_groups last.groups last.current
    pub hands_back : workspace' ≡ last.workspace

  -- One that is too long is not begun: 13.
  pub record Refused (x : X) (workspace : Workspace) (answer : Result FinishedScript StoppedScript) (x' : X) (workspace' : Workspace) : Type 0 where
    pub fault : ScriptFault
    pub too_long : refusal_of fault ≡ by_script 13
    pub says : answer ≡ Err (record { fault = fault; offset = 0; index = 0; written = 0 })
    pub leaves : x' ≡ x
    pub hands_back : workspace' ≡ workspace

  -- More than 8,192 bytes are refused; the commands of any other are carried out.
  abbrev pub RunsScript : X → Workspace → List ℕ → Result FinishedScript StoppedScript → X → Workspace → Type 0
  RunsScript x workspace script answer x' workspace' = MatchBool (nat_lt SCRIPT_MAX (length script)) (Refused x workspace answer x' workspace') (RunsCommands x workspace script answer x' workspace')
