-- Whatever happens to a book happens to the history that it shows.
use Rattle.std.proofs.Common.{List, [], ◌∷◌, ◌++◌, sym, refl, subst}
use Rattle.groups.specs.History.{History}
use Rattle.detection.specs.Detected.{Detects}
use Rattle.histories.specs.Calls.{Answer, Call}
use Rattle.histories.specs.Rules.{Parameters, BookState, Rules}
use Rattle.histories.specs.CallSteps.{CallStep}
use Rattle.histories.specs.Machines.{book_machine, history_machine, View}
use Rattle.histories.proofs.BookBesideHistory.{Stands, same_rows, same_answer, same_view, stands_after, fresh_stands}
use Rattle.lives.specs.Events.{Event, made, Does, calls, detects, happens, Life, begins, lives}
use Rattle.lives.specs.Law.{LawOfLives, LawOfCallsAndDetections}

module _ {P E K M : Type 0} (R : Rules P E K) (OnBook : BookState P K → M → BookState P K → Type 0) where
  -- a call, as it was promised
  pub call_does : {s s' : BookState P K} {c : Call E} {a : Answer} → CallStep R s c a s' → Does R (book_machine R) OnBook s (made c a) s'
  call_does k = rw (k.value, k.after) calls

  module _ (OnHistory : Parameters K → History E → M → History E → Type 0) where
    -- What only this kind of book knows happens to the history too.
    abbrev pub HappensToHistory : Type 0
    HappensToHistory = (t : Parameters K) (s s' : BookState P K) (h : History E) (m : M) → Stands R t s h → OnBook s m s' → (i : History E) × OnHistory t h m i × Stands R t s' i

    module _ (follows : HappensToHistory) (t : Parameters K) where
      does_so : {s s' : BookState P K} {h : History E} {e : Event E M} → Stands R t s h → Does R (book_machine R) OnBook s e s'
          → (i : History E) × Does R (history_machine R t) (OnHistory t) h e i × Stands R t s' i
      does_so {h = h} w (calls {c = c}) = (_, rw (same_answer R t w c) calls, stands_after R t w c)
      does_so {h = h} w (detects {job = job} {was = was} {is = is} {before = before} {after = after} {r = r} d) =
          (h, detects (subst (λ rows. Detects (R.table rows) job was is before after r) (same_rows R t w) d), w)
      does_so {s} {s'} {h} w (happens {m = m} k) = let q = follows t s s' h m w k in (q.0, happens q.1, q.2)

      pub life_so : {first s : BookState P K} {h : History E} {es : List (Event E M)} {vs : List (View P)} → Stands R t first h → Life R (book_machine R) OnBook first es vs s
          → (i : History E) × Life R (history_machine R t) (OnHistory t) h es vs i × Stands R t s i
      life_so {h = h} w begins = (h, begins, w)
      life_so {h = h} w (lives {es = es} {vs = vs} {e = e} l d) =
          let before = life_so w l in
          let after = does_so before.2 d in (
            after.0,
            subst (λ v. Life R (history_machine R t) (OnHistory t) h (es ++ e ∷ []) (vs ++ v ∷ []) after.0) (sym (same_view R t after.2)) (lives before.1 after.1),
            after.2,
          )

    pub law_of_lives : HappensToHistory → LawOfLives R OnBook OnHistory
    law_of_lives follows t = (refl, λ events views s l. let r = life_so follows t (fresh_stands R t) l in (r.0, r.1))

-- where nothing happens but calls and detections
pub law_of_calls_and_detections : {P E K : Type 0} (R : Rules P E K) → LawOfCallsAndDetections R
law_of_calls_and_detections R = law_of_lives R (λ s m s'. ⊥) (λ t h m h'. ⊥) (λ t s s' h m w k. absurd k)
