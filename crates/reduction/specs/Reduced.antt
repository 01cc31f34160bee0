-- What a reduction leaves.
use Rattle.std.specs.Prelude.{◌≡◌, ℕ, ◌<◌, cond, ◌↔◌, List, length, drop, Some, None, Option, nat_lt, slice_index_or}
use Rattle.rows.specs.Waiting.{Waiting}
use Rattle.tables.specs.Grants.{CanBeFreed}
use Rattle.tables.specs.ClosedSets.{IsClosed, IsLoosened}
use Rattle.reduction.specs.Marks.{loose, stuck, is_loose}

-- The check of a reduction, by its number. 10: there are fewer bytes than jobs.
abbrev pub stop : (jobs bytes : ℕ) → Option ℕ
stop jobs bytes = cond (nat_lt bytes jobs) (Some 10) None

-- Each job's byte is decided: 0 exactly if every closed set holds the job, and 1 exactly if no list of lawful grants,
-- the empty one counted, makes it active. The jobs of byte 0 are a closed set, and so the smallest. The bytes behind are as before.
pub record Reduced (rows : List Waiting) (before after : List ℕ) : Type 0 where
  pub loosened : (v : ℕ) → v < length rows → (slice_index_or after v stuck ≡ loose) ↔ IsLoosened rows v
  pub closed : IsClosed rows (is_loose after)
  pub stuck : (v : ℕ) → v < length rows → (slice_index_or after v loose ≡ stuck) ↔ (CanBeFreed rows v → ⊥)
  pub rest : drop (length rows) after ≡ drop (length rows) before
