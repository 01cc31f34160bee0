-- The jobs that a run notifies, and those that it frees, found in rounds.
use Rattle.std.proofs.Common.{ℕ, zero, suc, Bool, true, false, cond, not, ◌&&◌, ◌||◌, eqb, ltb, leb, List, [], ◌∷◌, length}
use Rattle.rows.specs.Waiting.{Waiting, among}
use Rattle.tables.specs.ClosedSets.{count}
use Rattle.exchange.proofs.LawfulRows.{need, targets}

-- Whether something is so of a number below n, or of each.
abbrev pub some_below : (n : ℕ) → (ℕ → Bool) → Bool
some_below zero p = false
some_below (suc n) p = p n || some_below n p

abbrev pub each_below : (n : ℕ) → (ℕ → Bool) → Bool
each_below zero p = true
each_below (suc n) p = p n && each_below n p

abbrev pub all_in : (ℕ → Bool) → List ℕ → Bool
all_in S [] = true
all_in S (t ∷ ts) = S t && all_in S ts

-- Jobs reached from the initiator along at most k waits.
abbrev pub reached : List Waiting → (initiator k : ℕ) → ℕ → Bool
reached rows initiator zero v = eqb v initiator
reached rows initiator (suc k) v = reached rows initiator k v || some_below (length rows) (λ w. reached rows initiator k w && among v (targets rows w))

-- Jobs freed in k rounds: reached active ones, and blocked ones that have as many freed targets as they need.
abbrev pub freed : List Waiting → (R : ℕ → Bool) → (k : ℕ) → ℕ → Bool
freed rows R zero v = false
freed rows R (suc k) v =
    freed rows R k v
    || (ltb v (length rows)
    && cond (eqb (need rows v) 0) (R v) (leb (need rows v) (count (freed rows R k) (targets rows v))))

-- Nothing is added to either set by one more round.
abbrev pub spread_out : List Waiting → (R : ℕ → Bool) → Bool
spread_out rows R = each_below (length rows) (λ v. not (R v) || all_in R (targets rows v))

abbrev pub freed_out : List Waiting → (R S : ℕ → Bool) → Bool
freed_out rows R S = each_below (length rows) (λ v. S v || cond (eqb (need rows v) 0) (not (R v)) (ltb (count S (targets rows v)) (need rows v)))
