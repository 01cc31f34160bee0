-- What a fillet does to the book, and what comes of it.
use Rattle.std.specs.Prelude.{ℕ, Bool, cond, ◌&&◌, List, Some, None, Ok, Err, Option, Result}
use Rattle.wait_book.specs.Calls.{Call, edits, opens, Answer, done, accepted}
use Rattle.wait_book.specs.Plain.{Edit, requests, plain, PlainBook, refusal}
use Rattle.wait_book.specs.Rules.{changed, says}
use Rattle.fillets.specs.declared.fillet.FilletFault.{FilletFault}
use Rattle.fillets.specs.declared.fillet.FilletFault.TheVariants.{TooThin, InBook}

-- How many faces a fillet waits for.
abbrev pub faces_needed : ℕ
faces_needed = 2

-- A fillet waits for the faces at its edge.
abbrev pub waits_for_faces : ℕ → List ℕ → Call Edit
waits_for_faces fillet faces = edits (requests fillet faces_needed faces)

-- What is told of a fillet: done, or the book's refusal; nothing of the book's where the edge is too thin.
abbrev pub fillet_reply : Result (Unit {0}) FilletFault → Option Answer
fillet_reply (Ok u) = Some done
fillet_reply (Err (InBook fault)) = Some (refusal fault)
fillet_reply (Err TooThin) = None

-- What comes of a fillet in a group of its own: the book's answer to the opening, where it refuses; else, where the edge is not too thin,
-- its answer to the request inside the group.
abbrev pub fillet_comes : PlainBook → (thin : Bool) → Call Edit → Option Answer
fillet_comes s thin c = cond (accepted (says plain s opens)) (cond thin None (Some (says plain (changed plain s opens) c))) (Some (says plain s opens))

-- What comes of two, the second of which is only tried: the book's answer to the first, where it refuses; else its answer to the second,
-- in a group around it.
abbrev pub twice_comes : PlainBook → (first second : Call Edit) → Answer
twice_comes s first second =
    cond (accepted (says plain s opens))
    (cond (accepted (says plain (changed plain s opens) first)) (says plain (changed plain (changed plain s first) opens) second) (says plain (changed plain s opens) first))
    (says plain s opens)

-- What they leave: the first alone, where the book takes it.
abbrev pub twice_leaves : PlainBook → (first : Call Edit) → PlainBook
twice_leaves s first = cond (accepted (says plain s opens) && accepted (says plain (changed plain s opens) first)) (changed plain s first) s
