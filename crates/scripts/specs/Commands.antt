-- Scripts as bytes: which command stands at the head of those unread.
use Rattle.std.specs.Prelude.{ℕ, ◌+◌, cond, List, [], ◌∷◌, length, take, ◌==◌, nat_le}
use Rattle.groups.specs.declared.store.Ending.{Ending}
use Rattle.groups.specs.declared.store.Ending.TheVariants.{Keep, Cancel}
use Rattle.store.specs.Plain.{Edit, requests, grants}

-- A command: an edit, an opening, an ending, a detection.
pub data Command : Type 0 where
  makes : Edit → Command
  opening : Command
  ending : Ending → Command
  detecting : (job : ℕ) → Command

-- No byte is left; the first is no command's letter; the bytes end inside the command; or a whole command, and its length.
pub data Head : Type 0 where
  over : Head
  unknown : Head
  cut : Head
  whole : Command → (bytes : ℕ) → Head

-- R has a job, a need, M and M targets. Every operand, here and below, is one byte.
abbrev pub request_head : List ℕ → Head
request_head [] = cut
request_head (job ∷ []) = cut
request_head (job ∷ (need ∷ [])) = cut
request_head (job ∷ (need ∷ (m ∷ rest))) = cond (nat_le m (length rest)) (whole (makes (requests job need (take m rest))) (m + 4)) cut

-- G has a granter and a waiter.
abbrev pub grant_head : List ℕ → Head
grant_head [] = cut
grant_head (granter ∷ []) = cut
grant_head (granter ∷ (waiter ∷ rest)) = whole (makes (grants granter waiter)) 3

-- D has a job.
abbrev pub detection_head : List ℕ → Head
detection_head [] = cut
detection_head (job ∷ rest) = whole (detecting job) 2

-- The letters are R, G, O, K, C and D, as ASCII bytes.
abbrev pub head : List ℕ → Head
head [] = over
head (letter ∷ operands) =
    cond (letter == 82) (request_head operands)
    (cond (letter == 71) (grant_head operands)
    (cond (letter == 79) (whole opening 1)
    (cond (letter == 75) (whole (ending Keep) 1)
    (cond (letter == 67) (whole (ending Cancel) 1)
    (cond (letter == 68) (detection_head operands)
    unknown)))))
