-- The number, the value and the layer of each fault of a script.
use Rattle.std.specs.Prelude.{ℕ, None, Option}
use Rattle.detection.specs.Detected.{number as detection-number}
use Rattle.store.specs.Faults.{number as book-number, value as book-value}
use Rattle.scripts.specs.declared.fault.ScriptFault.{ScriptFault}
use Rattle.scripts.specs.declared.fault.ScriptFault.TheVariants.{TooLong, UnknownLetter, CutOff, NoScriptGroup, NoAnswerSpace, OfBook, OfDetection}

-- Whose a refusal is, 0 the script's, 1 the book's, 2 the detection's; its number; and its value, if it carries one.
pub record LayeredRefusal : Type 0 where
  pub layer : ℕ
  pub number : ℕ
  pub value : Option ℕ

-- A refusal by the script itself. Only the book's may carry a value.
abbrev pub by_script : (number : ℕ) → LayeredRefusal
by_script number = record { layer = 0; number = number; value = None }

-- One by the book.
abbrev pub by_book : (number : ℕ) → (value : Option ℕ) → LayeredRefusal
by_book number value = record { layer = 1; number = number; value = value }

-- One by the detection.
abbrev pub by_detection : (number : ℕ) → LayeredRefusal
by_detection number = record { layer = 2; number = number; value = None }

-- The refusal that each fault tells. What the book and the detection refuse is passed on as they number it.
abbrev pub refusal_of : ScriptFault → LayeredRefusal
refusal_of TooLong = by_script 13
refusal_of UnknownLetter = by_script 14
refusal_of CutOff = by_script 15
refusal_of NoScriptGroup = by_script 16
refusal_of NoAnswerSpace = by_script 17
refusal_of (OfBook fault) = by_book (book-number fault) (book-value fault)
refusal_of (OfDetection fault) = by_detection (detection-number fault)
