-- The number of each refusal of a reduction. None carries a value.
use Rattle.std.specs.Prelude.{ℕ, Option, Result}
use Rattle.std.specs.Option.{option_map}
use Rattle.std.specs.Result.{result_err}
use Rattle.reduction.specs.declared.fault.ReductionFault.{ReductionFault}
use Rattle.reduction.specs.declared.fault.ReductionFault.TheVariants.{TooShort}

-- 10: there are fewer bytes than jobs. It carries no value.
abbrev pub number : ReductionFault → ℕ
number TooShort = 10

-- The number by which a reduction is refused; none where it is not.
abbrev pub refusal_number : {A : Type 0} → Result A ReductionFault → Option ℕ
refusal_number r = option_map number (result_err r)
