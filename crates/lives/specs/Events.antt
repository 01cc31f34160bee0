-- What happens to a book, or to a history.
use Rattle.std.specs.Prelude.{ℕ, List, [], ◌∷◌, ◌++◌, Result}
use Rattle.carriers.specs.Carriers.{Carried}
use Rattle.exchange.specs.declared.record.RunRecord.{RunRecord}
use Rattle.detection.specs.Detected.{Detects}
use Rattle.detection.specs.declared.fault.DetectionFault.{DetectionFault}
use Rattle.detection.specs.declared.verdict.Detection.{Detection}
use Rattle.histories.specs.Calls.{Answer, Call}
use Rattle.histories.specs.Rules.{Rules}
use Rattle.histories.specs.Machines.{Machine, View, view_of}

-- A call and its answer; a detection, to which memory is lent, each time perhaps another: the event tells what it held before and after; or
-- what only this kind of book knows, as a script.
pub data Event (E M : Type 0) : Type 0 where
  made : Call E → Answer → Event E M
  detected : (job : ℕ) (was : List RunRecord) (before : Carried) → Result Detection DetectionFault → (is : List RunRecord) (after : Carried) → Event E M
  special : M → Event E M

module _ {P E K M X : Type 0} (R : Rules P E K) (S : Machine P E X) (Happens : X → M → X → Type 0) where
  -- An event happens to a book or a history, by the rules: of calls, of detections on its rows, which change nothing, or of what this kind knows.
  pub data Does : X → Event E M → X → Type 0 where
    calls : {x : X} {c : Call E} → Does x (made c (S.says x c)) (S.after x c)
    detects : {x : X} {job : ℕ} {was is : List RunRecord} {before after : Carried} {r : Result Detection DetectionFault}
        → Detects (R.table (S.rows x)) job was is before after r → Does x (detected job was before r is after) x
    happens : {x y : X} {m : M} → Happens x m y → Does x (special m) y

  -- A life: nothing has happened, or one more event than in a life so far. The views tell what was seen after each event.
  pub data Life (first : X) : List (Event E M) → List (View P) → X → Type 0 where
    begins : Life first [] [] first
    lives : {es : List (Event E M)} {vs : List (View P)} {x y : X} {e : Event E M} → Life first es vs x → Does x e y → Life first (es ++ e ∷ []) (vs ++ view_of S y ∷ []) y
