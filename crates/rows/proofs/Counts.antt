-- What the counts of a row tell.
use Rattle.std.proofs.Common.{◌≡◌, ℕ, ◌+◌, ◌-◌, ◌<◌, ◌≤◌, true, false, arith}
use Rattle.std.proofs.lemmas.Bool.Decides.{nat_tests}
use Rattle.rows.specs.Law.{counts_fit}
use Rattle.rows.specs.declared.plain.TheConstants.{TARGETS_MAX}
use Rattle.rows.specs.Changes.{wrong_counts}

pub record Counts (need count : ℕ) : Type 0 where
  pub few : count ≤ TARGETS_MAX
  pub enough : need ≤ count
  pub none : need ≡ 0 → count ≡ 0

pub fit_tells : (need count : ℕ) → counts_fit need count ≡ true → Counts need count
fit_tells need count h = record { few = grind (arith, nat_tests); enough = grind (arith, nat_tests); none = λ z. grind (arith, nat_tests) }

pub right_counts_fit : (need count : ℕ) → wrong_counts need count ≡ false → counts_fit need count ≡ true
right_counts_fit need count h = grind (arith, nat_tests)

pub one_less_fits : (need count left : ℕ) → Counts need count → left + 1 ≡ count → 1 < need → counts_fit (need - 1) left ≡ true
one_less_fits need count left c e l =
    let few : left ≤ TARGETS_MAX = omega (arith, c.few) in
    let enough : need - 1 ≤ left = omega (arith, c.enough) in
    grind (arith, nat_tests)
