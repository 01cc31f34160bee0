-- Sums over messages, each weighed by its kind and its wait.
use Rattle.std.proofs.Common.{◌≡◌, ℕ, ◌+◌, Bool, cond, List, [], ◌∷◌, ◌++◌, map, length, Some, None, sum_by, Option, sym, refl, ◌∙◌, arith}
use Rattle.std.proofs.lemmas.List.Sorted.{sum_by-IsPermutation}
use Rattle.std.proofs.lemmas.List.Sums.{sum_by-cons}
use Rattle.std.specs.List.Sorted.{IsPermutation}
use Rattle.carriers.specs.declared.message.Kind.{Kind}
use Rattle.carriers.specs.declared.message.Message.{Message}
use Rattle.carriers.specs.declared.message.Wait.{Wait}
use Rattle.exchange.specs.Rules.{put_on}

abbrev pub weigh : (Kind → Wait → ℕ) → List Message → ℕ
weigh f [] = 0
weigh f (m ∷ ms) = f m.kind m.wait + weigh f ms

pub weigh_append : (f : Kind → Wait → ℕ) (xs ys : List Message) → weigh f (xs ++ ys) ≡ weigh f xs + weigh f ys
weigh_append f [] ys = omega arith
weigh_append f (x ∷ xs) ys = omega (arith, weigh_append f xs ys)

-- Messages that all weigh 1, or all weigh nothing.
pub weigh_alike : (f : Kind → Wait → ℕ) (g : ℕ → Message) (b : Bool) → ((u : ℕ) → f (g u).kind (g u).wait ≡ cond b 1 0) → (ts : List ℕ) → weigh f (map g ts) ≡ cond b (length ts) 0
weigh_alike f g b h [] = grind arith
weigh_alike f g b h (x ∷ xs) = let e = h x in let ih = weigh_alike f g b h xs in grind arith

-- What is put on a wait that a record names.
pub weigh_put_on : (f : Kind → Wait → ℕ) (g : Option Wait → ℕ) (k : Kind) → g None ≡ 0 → ((w : Wait) → f k w ≡ g (Some w)) → (o : Option Wait) → weigh f (put_on k o) ≡ g o
weigh_put_on f g k z h None = sym z
weigh_put_on f g k z h (Some w) = omega (arith, h w)

-- A collection weighs the same in any order.
weigh_is_sum : (f : Kind → Wait → ℕ) (ms : List Message) → weigh f ms ≡ sum_by (λ (m : Message). f m.kind m.wait) ms
weigh_is_sum f [] = refl
weigh_is_sum f (m ∷ ms) = omega (arith, weigh_is_sum f ms, sum_by-cons (λ (m : Message). f m.kind m.wait) m ms)

pub weigh_shuffled : (f : Kind → Wait → ℕ) (xs ys : List Message) → IsPermutation xs ys → weigh f ys ≡ weigh f xs
weigh_shuffled f xs ys h = weigh_is_sum f ys ∙ sum_by-IsPermutation (λ (m : Message). f m.kind m.wait) xs ys h ∙ sym (weigh_is_sum f xs)
