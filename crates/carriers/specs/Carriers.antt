-- A carrier, as those who use it see it.
use Rattle.std.specs.Prelude.{ℕ, List}
use Rattle.carriers.specs.declared.message.Message.{Message}

-- A carrier, whatever its order of delivery.
pub record Carried : Type 0 where
  -- the messages that wait in it, as a collection: nothing is said of their order
  pub waiting : List Message
  -- how many can wait in it
  pub capacity : ℕ
  -- how many it has handed out, modulo 2 ^ 32
  pub handed : ℕ
