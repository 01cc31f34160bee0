-- The law of whole lives.
use Rattle.std.specs.Prelude.{◌≡◌, List}
use Rattle.groups.specs.History.{History, begun}
use Rattle.histories.specs.Rules.{Parameters, BookState, Rules, fresh_book}
use Rattle.histories.specs.Machines.{book_machine, history_machine, View, view_of}
use Rattle.lives.specs.Events.{Event, Life}

-- Whatever happens to a book from its creation on, whichever memory and carrier are lent each time: the same happens to the history
-- that is told the same at creation, and the same is seen, at creation and after each event.
abbrev pub LawOfLives : {P E K M : Type 0} (R : Rules P E K) → (BookState P K → M → BookState P K → Type 0) → (Parameters K → History E → M → History E → Type 0) → Type 0
LawOfLives {P} {E} {K} {M} R OnBook OnHistory = (t : Parameters K)
    → (view_of (book_machine R) (fresh_book R t) ≡ view_of (history_machine R t) begun)
    × ((events : List (Event E M)) (views : List (View P)) (s : BookState P K)
    → Life R (book_machine R) OnBook (fresh_book R t) events views s
    → (h : History E) × Life R (history_machine R t) (OnHistory t) begun events views h)

-- Of a book to which nothing happens but calls and detections.
abbrev pub LawOfCallsAndDetections : {P E K : Type 0} → Rules P E K → Type 0
LawOfCallsAndDetections R = LawOfLives {M = ⊥} R (λ s m s'. ⊥) (λ t h m h'. ⊥)
