-- The number of the refusal of a put.
use Rattle.std.specs.Prelude.{ℕ, Option, Result}
use Rattle.std.specs.Option.{option_map}
use Rattle.std.specs.Result.{result_err}
use Rattle.carriers.specs.declared.carrier.CarrierFull.{CarrierFull}

-- 12: as many messages wait as the carrier has room for. It carries no value.
abbrev pub number : CarrierFull → ℕ
number full = 12

-- The number by which a put is refused; none where it is not.
abbrev pub refusal_number : {A : Type 0} → Result A CarrierFull → Option ℕ
refusal_number r = option_map number (result_err r)
