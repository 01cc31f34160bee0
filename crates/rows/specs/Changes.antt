-- What a request and a grant make of one row, and the checks of a request that need no book.
use Rattle.std.specs.Prelude.{ℕ, ◌+◌, ◌-◌, Bool, cond, not, ◌&&◌, ◌||◌, List, [], ◌∷◌, length, Some, None, Ok, Err, Option, Result, ◌==◌, nat_le, nat_lt}
use Rattle.rows.specs.Waiting.{Waiting, idle}
use Rattle.rows.specs.declared.plain.TheConstants.{TARGETS_MAX}
use Rattle.rows.specs.declared.plain.RowFault.{RowFault}
use Rattle.rows.specs.declared.plain.RowFault.TheVariants.{WrongCounts, WrongTarget}

-- A request is wrong in its counts: no target or more than 16, or a need of 0 or above the number of targets.
abbrev pub wrong_counts : (need count : ℕ) → Bool
wrong_counts need count = (count == 0 || nat_lt TARGETS_MAX count) || (need == 0 || nat_lt count need)

-- Of one target: it is below n, is not the job itself, and is above the one before it; `low` is one more than that one, and 0 for the
-- first.
abbrev pub target_fits : (n job low t : ℕ) → Bool
target_fits n job low t = nat_lt t n && (not (t == job) && nat_le low t)

-- The place of the first target that is not below n, is the job itself or is not above the one before it;
-- `place` is the place of the list's head, and targets below `low` are not above the one before.
abbrev pub first_wrong : (n job low place : ℕ) → List ℕ → Option ℕ
first_wrong n job low place [] = None
first_wrong n job low place (t ∷ ts) = cond (target_fits n job low t) (first_wrong n job (t + 1) (place + 1) ts) (Some place)

-- A wrong target at a place, or the row.
abbrev pub placed : Option ℕ → Waiting → Result Waiting RowFault
placed None w = Ok w
placed (Some place) w = Err (WrongTarget place)

-- The row of a request by `job`, one of n jobs; or the first reason against it.
abbrev pub requested : (n job need : ℕ) → List ℕ → Result Waiting RowFault
requested n job need targets =
    cond (wrong_counts need (length targets)) (Err WrongCounts)
    (placed (first_wrong n job 0 0 targets) (record { need = need; targets = targets }))

-- The targets without u, which stands among them once at most.
abbrev pub without : ℕ → List ℕ → List ℕ
without u [] = []
without u (t ∷ ts) = cond (t == u) ts (t ∷ without u ts)

-- Where nothing is needed any more, the other waits vanish.
abbrev pub cleared_if_met : Waiting → Waiting
cleared_if_met w = cond (w.need == 0) idle w

-- The row after a grant by u: the wait for u goes, and the need falls by one.
abbrev pub granted : ℕ → Waiting → Waiting
granted u w = cleared_if_met (record { need = w.need - 1; targets = without u w.targets })
