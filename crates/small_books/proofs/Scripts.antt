-- What comes of a script, command by command, wherever the rules leave it no choice but that of the messages' order.
use Rattle.std.proofs.Common.{◌≡◌, ℕ, ◌+◌, ◌≤◌, List, [], drop, length, Some, None, Ok, Option, Result, sym, refl, ap, ◌∙◌, subst, arith}
use Rattle.carriers.specs.Carriers.{Carried}
use Rattle.exchange.specs.declared.record.RunRecord.{RunRecord}
use Rattle.rows.specs.Waiting.{Waiting}
use Rattle.detection.specs.Detected.{stop, Detects}
use Rattle.detection.specs.declared.verdict.Detection.{Detection}
use Rattle.book.specs.Calls.{Answer, done, ticket, stopped, returned, edits}
use Rattle.book.specs.Commands.{Command, makes, detecting, Head, whole, head}
use Rattle.book.specs.Plain.{Edit}
use Rattle.book.specs.FinishedScript.{FinishedScript}
use Rattle.book.specs.ScriptFault.{ScriptFault}
use Rattle.book.specs.ScriptFaults.{LayeredRefusal, refusal_of, by_book}
use Rattle.book.specs.Scripts.{Progress, after_call, after_detection, CarriesOut, edited, answered, Stops, not_edited, no_space, not_detected, ReadStep, carried_out, refused, no_command, ReadAll, finishes, faults, steps, unreadable, script_answer}
use Rattle.book.specs.StoppedScript.{StoppedScript}
use Rattle.book.specs.Machines.{Machine}
use Rattle.book.specs.Position.{Position}

-- One head is one command.
same_command : {c c' : Command} {n n' : ℕ} → whole c n ≡ whole c' n' → (c ≡ c') × (n ≡ n')
same_command e = (cc e, cc e)

not_strange : {h : Head} {c : Command} {n : ℕ} {r : LayeredRefusal} → h ≡ whole c n → unreadable h ≡ Some r → ⊥
not_strange e g = absurd (cc (sym (ap unreadable e) ∙ g))

-- The refusal that a script tells of a refused edit.
abbrev by_book_of : Answer → LayeredRefusal
by_book_of done = by_book 0 None
by_book_of (ticket mark depth) = by_book 0 None
by_book_of (stopped number value) = by_book number value
by_book_of (returned number mark depth) = by_book number None

module _ {X : Type 0} (S : Machine Waiting Edit X) where
  -- A step at the head that can't fail: so many bytes are read, and what is then is told by G.
  abbrev Only : (unread : List ℕ) → Progress X → (G : Progress X → Type 0) → (bytes : ℕ) → Type 0
  Only unread p G k = (o : Option ScriptFault) (q : Progress X) (n : ℕ) → ReadStep S unread p o q n → (o ≡ None) × G q × (n ≡ k)

  module _ (unread : List ℕ) (p : Progress X) where
    -- an edit that is accepted
    pub edit_step : (e : Edit) (k : ℕ) → head unread ≡ whole (makes e) k → S.says p.current (edits e) ≡ done → Only unread p (λ q. q ≡ after_call S p (edits e) p.groups) k
    edit_step e k h a o q n (carried_out {c = c} g w) =
        let s = same_command (sym g ∙ h) in
        (refl, made (subst (λ (c : Command). CarriesOut S p c q) s.0 w), s.1)
      where
        made : {q : Progress X} → CarriesOut S p (makes e) q → q ≡ after_call S p (edits e) p.groups
        made (edited b) = refl
    edit_step e k h a o q n (refused {c = c} {fault = fault} g w) = absurd (never (subst (λ (c : Command). Stops S p c fault) (same_command (sym g ∙ h)).0 w))
      where
        never : {fault : ScriptFault} → Stops S p (makes e) fault → ⊥
        never (not_edited b r) = absurd (cc (b, a))
    edit_step e k h a o q n (no_command g) = absurd (not_strange h g)

    -- an edit that is refused stops the script
    pub refused_step : (e : Edit) (k number : ℕ) (value : Option ℕ) → head unread ≡ whole (makes e) k → S.says p.current (edits e) ≡ stopped number value
        → {o : Option ScriptFault} {q : Progress X} {n : ℕ} → ReadStep S unread p o q n → (fault : ScriptFault) × (o ≡ Some fault) × (refusal_of fault ≡ by_book number value) × (q ≡ p)
    refused_step e k number value h a (carried_out {q = q} g w) = absurd (never (subst (λ (c : Command). CarriesOut S p c q) (same_command (sym g ∙ h)).0 w))
      where
        never : {q : Progress X} → CarriesOut S p (makes e) q → ⊥
        never (edited b) = absurd (cc (b, a))
    refused_step e k number value h a (refused {fault = fault} g w) = (fault, refl, told (subst (λ (c : Command). Stops S p c fault) (same_command (sym g ∙ h)).0 w), refl)
      where
        told : {fault : ScriptFault} → Stops S p (makes e) fault → refusal_of fault ≡ by_book number value
        told (not_edited b r) = r ∙ ap by_book_of (sym b ∙ a)
    refused_step e k number value h a (no_command g) = absurd (not_strange h g)

    -- A detection was made, and the script goes on from there.
    pub record Answered (job : ℕ) (q : Progress X) : Type 0 where
      pub told : Detection
      pub records : List RunRecord
      pub carrier : Carried
      pub made : Detects (S.rows p.current) job p.workspace.records records p.workspace.carrier carrier (Ok told)
      pub becomes : q ≡ after_detection S p job told records carrier

    pub detection_step : (job k : ℕ) → head unread ≡ whole (detecting job) k → p.written + 4 ≤ length p.workspace.bytes → stop (S.rows p.current) job (length p.workspace.records) p.workspace.carrier ≡ None
        → Only unread p (Answered job) k
    detection_step job k h trail_room none o q n (carried_out g w) =
        let s = same_command (sym g ∙ h) in
        (refl, made (subst (λ (c : Command). CarriesOut S p c q) s.0 w), s.1)
      where
        made : {q : Progress X} → CarriesOut S p (detecting job) q → Answered job q
        made (answered {d = d} {is = is} {after = after} l e) = record { told = d; records = is; carrier = after; made = e; becomes = refl }
    detection_step job k h trail_room none o q n (refused {fault = fault} g w) = absurd (never (subst (λ (c : Command). Stops S p c fault) (same_command (sym g ∙ h)).0 w))
      where
        never : {fault : ScriptFault} → Stops S p (detecting job) fault → ⊥
        never (no_space l r) = omega (arith, l, trail_room)
        never (not_detected l e r) = absurd (cc (e, none))
    detection_step job k h trail_room none o q n (no_command g) = absurd (not_strange h g)

  -- What is read from there on.
  pub goes_on : {G : Progress X → Type 0} (unread : List ℕ) (c : Command) (k : ℕ) {here there : Position} {p r : Progress X} {o : Option ScriptFault} → head unread ≡ whole c k
      → Only unread p G k → ReadAll S unread here p o there r → (q : Progress X) × G q × ReadAll S (drop k unread) (record { offset = here.offset + k; index = here.index + 1 }) q o there r
  goes_on _ c k h only finishes = absurd (cc h)
  goes_on _ c k h only (faults {q = q} {n = n} {fault = fault} s) = absurd (cc (only (Some fault) q n s).0)
  goes_on unread c k {here} {there} {p} {r} {o} h only (steps {q = q} {n = n} s b) =
      let e = only None q n s in
      (q, e.1, subst (λ (n : ℕ). ReadAll S (drop n unread) (record { offset = here.offset + n; index = here.index + 1 }) q o there r) e.2 b)

  -- From an edit that is accepted.
  pub goes_on_after : (unread : List ℕ) (e : Edit) (k : ℕ) {here there : Position} {p r : Progress X} {o : Option ScriptFault} → head unread ≡ whole (makes e) k → S.says p.current (edits e) ≡ done
      → ReadAll S unread here p o there r → ReadAll S (drop k unread) (record { offset = here.offset + k; index = here.index + 1 }) (after_call S p (edits e) p.groups) o there r
  goes_on_after unread e k {here} {there} {p} {r} {o} h a b =
      let g = goes_on unread (makes e) k h (edit_step unread p e k h a) b in
      subst (λ (q : Progress X). ReadAll S (drop k unread) (record { offset = here.offset + k; index = here.index + 1 }) q o there r) g.1 g.2

  -- Where no byte is left, the script is over.
  pub is_over : {here there : Position} {p r : Progress X} {o : Option ScriptFault} → ReadAll S [] here p o there r → (o ≡ None) × (there ≡ here) × (r ≡ p)
  is_over finishes = (refl, refl, refl)
  is_over (faults (refused g w)) = absurd (cc g)
  is_over (faults (no_command g)) = absurd (cc g)
  is_over (steps (carried_out g w) b) = absurd (cc g)

  -- An edit that is refused is where the script stops.
  pub stops_there : (unread : List ℕ) (e : Edit) (k number : ℕ) (value : Option ℕ) {here there : Position} {p r : Progress X} {o : Option ScriptFault}
      → head unread ≡ whole (makes e) k → S.says p.current (edits e) ≡ stopped number value → ReadAll S unread here p o there r
      → (fault : ScriptFault) × (o ≡ Some fault) × (refusal_of fault ≡ by_book number value) × (there ≡ here) × (r ≡ p)
  stops_there _ e k number value h a finishes = absurd (cc h)
  stops_there unread e k number value {p = p} h a (faults s) = let t = refused_step unread p e k number value h a s in (t.0, t.1, t.2, refl, t.3)
  stops_there unread e k number value {p = p} h a (steps s b) = absurd (cc (refused_step unread p e k number value h a s).1)

  -- What is answered, told by where the script has come to.
  pub answered_there : {answer : Result FinishedScript StoppedScript} {o o' : Option ScriptFault} {there there' : Position} {r r' : Progress X} → answer ≡ script_answer S o there r
      → o ≡ o' → there ≡ there' → r ≡ r' → answer ≡ script_answer S o' there' r'
  answered_there {o' = o'} {there = there} {there' = there'} {r = r} a e f g =
      a ∙ ap (λ (o : Option ScriptFault). script_answer S o there r) e ∙ ap (λ (t : Position). script_answer S o' t r) f ∙ ap (λ (r : Progress X). script_answer S o' there' r) g
