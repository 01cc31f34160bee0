-- What the rows of the program stand for.
use Rattle.std.specs.Prelude.{◌≡◌, ◌↔◌, ℕ, ◌-◌, Bool, true, false, cond, List, ◌++◌, length, replicate, ◌==◌, Some, None, Ok, Err, Option, Result, MatchResult}
use Rattle.std.specs.Borrow.{Bor}
use Rattle.std.specs.List.{list_all}
use Rattle.std.specs.Ordering.{on, eq_of_both}
use Rattle.std.specs.Cmp.Lexicographic.{pointwise}
use Rattle.rows.specs.declared.plain.PlainRow.{PlainRow}
use Rattle.rows.specs.declared.plain.Row.{Row}
use Rattle.rows.specs.declared.plain.LawBroken.{LawBroken}
use Rattle.rows.specs.declared.plain.RowFault.{RowFault}
use Rattle.rows.specs.declared.plain.RowFault.TheVariants.{WrongCounts, WrongTarget}
use Rattle.rows.specs.Waiting.{Waiting, idle, among}
use Rattle.rows.specs.declared.plain.TheConstants.{TARGETS_MAX}
use Rattle.rows.specs.Storage.{stored, sound, stored_fits}
use Rattle.rows.specs.Changes.{wrong_counts, first_wrong, granted}

-- What a stored row says.
abbrev pub waiting : PlainRow → Waiting
waiting p = stored p.need p.count p.targets

-- What a stored row says, where there is one; else the row is idle.
abbrev pub waiting_or_idle : Option (Bor PlainRow) → Waiting
waiting_or_idle None = idle
waiting_or_idle (Some p) = waiting p.now

-- What a checked row says.
abbrev pub waiting_of : Row → Waiting
waiting_of r = waiting r.plain

-- A stored row is refused where it is not sound, and else the checked row holds it as it is.
abbrev pub Checked : PlainRow → Result Row LawBroken → Type 0
Checked p r = MatchResult r (λ row. (sound p.need p.count p.targets ≡ true) × (row.plain ≡ p)) (λ e. sound p.need p.count p.targets ≡ false)

-- The places of targets: they come first, and the places that they leave are 0.
abbrev pub places_of : List ℕ → List ℕ
places_of targets = targets ++ replicate (TARGETS_MAX - length targets) 0

-- How a row is stored, which is decided by its need and its targets.
abbrev pub stored_as : Waiting → PlainRow
stored_as w = record { need = w.need; count = length w.targets; targets = places_of w.targets }

-- Every stored row is sound.
abbrev pub all_sound : List PlainRow → Bool
all_sound rows = list_all (λ p. sound p.need p.count p.targets) rows

-- A checked row is stored as what it says decides, and that is sound. A sound stored row equals it exactly if it says the same.
pub record StoredWhole (r : Row) (p : PlainRow) : Type 0 where
  pub value : p ≡ stored_as (waiting_of r)
  pub lawful : sound p.need p.count p.targets ≡ true
  pub decided : (q : PlainRow) → sound q.need q.count q.targets ≡ true → (q ≡ p) ↔ (waiting q ≡ waiting_of r)

-- Whether two rows say the same: the same need, and the same targets.
abbrev pub says_same : Row → Row → Bool
says_same = eq_of_both (on (λ r. (waiting_of r).need) ◌==◌) (on (λ r. (waiting_of r).targets) (pointwise ◌==◌))

-- The law of a stored row of `job`, one of n jobs.
abbrev pub plain_fits : (n job : ℕ) → PlainRow → Bool
plain_fits n job p = stored_fits n job p.need p.count p.targets

-- The row that was made, by what it says; or why none was.
abbrev pub seen : Result Row RowFault → Result Waiting RowFault
seen (Ok r) = Ok (waiting_of r)
seen (Err e) = Err e

-- What an optional row says.
abbrev pub seen_some : Option Row → Option Waiting
seen_some None = None
seen_some (Some r) = Some (waiting_of r)

-- The row after a grant by u, where it waits for u.
abbrev pub granted_by : ℕ → Waiting → Option Waiting
granted_by u w = cond (among u w.targets) (Some (granted u w)) None
