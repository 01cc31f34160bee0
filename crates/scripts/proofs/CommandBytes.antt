-- The bytes of the command that stands at the head of others.
use Rattle.std.proofs.Common.{◌≡◌, ℕ, ◌+◌, Bool, true, false, cond, List, [], ◌∷◌, ◌++◌, length, take, drop, drop-drop, refl, sym, ap, ◌∙◌, arith, nat_le, nat_eq}
use Rattle.std.proofs.lemmas.Bool.{eqb-true, leb-true}
use Rattle.std.proofs.lemmas.List.{length-take-le, take-append-drop}
use Rattle.groups.specs.declared.store.Ending.TheVariants.{Keep, Cancel}
use Rattle.store.specs.Plain.{requests}
use Rattle.scripts.specs.Commands.{Command, makes, opening, ending, unknown, cut, whole, request_head, grant_head, detection_head, head}
use Rattle.scripts.specs.ScriptCalls.{command_bytes}

-- Bytes begin with those of a command, so many.
pub record BeginWith (bytes : List ℕ) (c : Command) (n : ℕ) : Type 0 where
  pub count : n ≡ length (command_bytes c)
  pub first : bytes ≡ command_bytes c ++ drop n bytes

begin_same : {bytes : List ℕ} (a : Command) (k : ℕ) (c : Command) (n : ℕ) → whole a k ≡ whole c n → BeginWith bytes a k → BeginWith bytes c n
begin_same {bytes} a k c n e b =
    let same : a ≡ c = cc in
    let long : k ≡ n = cc in
    rw (← same, ← long) b

module _ (c : Command) (n : ℕ) where
  request_bytes : (operands : List ℕ) → request_head operands ≡ whole c n → BeginWith (82 ∷ operands) c n
  request_bytes [] e = absurd (cc e)
  request_bytes (job ∷ []) e = absurd (cc e)
  request_bytes (job ∷ (need ∷ [])) e = absurd (cc e)
  request_bytes (job ∷ (need ∷ (m ∷ rest))) e = go (nat_le m (length rest)) refl e
    where
      go : (q : Bool) → nat_le m (length rest) ≡ q → cond q (whole (makes (requests job need (take m rest))) (m + 4)) cut ≡ whole c n → BeginWith (82 ∷ job ∷ need ∷ m ∷ rest) c n
      go false f e = absurd (cc e)
      go true f e =
          let many = length-take-le m rest (leb-true m (length rest) f) in
          let bytes : List ℕ = 82 ∷ job ∷ need ∷ m ∷ rest in
          let swapped : m + 4 ≡ 4 + m = omega arith in
          let behind : drop (m + 4) bytes ≡ drop m rest = ap (λ k. drop k bytes) swapped ∙ sym (drop-drop m 4 bytes) in
          begin_same _ _ c n e (record {
            count = omega (arith, many);
            first = rw (behind, many, take-append-drop m rest) refl;
          })

  grant_bytes : (operands : List ℕ) → grant_head operands ≡ whole c n → BeginWith (71 ∷ operands) c n
  grant_bytes [] e = absurd (cc e)
  grant_bytes (granter ∷ []) e = absurd (cc e)
  grant_bytes (granter ∷ (waiter ∷ rest)) e = begin_same _ _ c n e (record { count = refl; first = refl })

  DETECTION_BYTES : (operands : List ℕ) → detection_head operands ≡ whole c n → BeginWith (68 ∷ operands) c n
  DETECTION_BYTES [] e = absurd (cc e)
  DETECTION_BYTES (job ∷ rest) e = begin_same _ _ c n e (record { count = refl; first = refl })

  letter_bytes : (letter : ℕ) (operands : List ℕ) (r g o k x d : Bool) → nat_eq letter 82 ≡ r → nat_eq letter 71 ≡ g → nat_eq letter 79 ≡ o → nat_eq letter 75 ≡ k → nat_eq letter 67 ≡ x → nat_eq letter 68 ≡ d
      → cond r (request_head operands) (cond g (grant_head operands) (cond o (whole opening 1) (cond k (whole (ending Keep) 1) (cond x (whole (ending Cancel) 1) (cond d (detection_head operands) unknown))))) ≡ whole c n
      → BeginWith (letter ∷ operands) c n
  letter_bytes letter operands true g o k x d is _ _ _ _ _ e = rw (eqb-true letter 82 is) (request_bytes operands e)
  letter_bytes letter operands false true o k x d _ is _ _ _ _ e = rw (eqb-true letter 71 is) (grant_bytes operands e)
  letter_bytes letter operands false false true k x d _ _ is _ _ _ e = rw (eqb-true letter 79 is) (begin_same _ _ c n e (record { count = refl; first = refl }))
  letter_bytes letter operands false false false true x d _ _ _ is _ _ e = rw (eqb-true letter 75 is) (begin_same _ _ c n e (record { count = refl; first = refl }))
  letter_bytes letter operands false false false false true d _ _ _ _ is _ e = rw (eqb-true letter 67 is) (begin_same _ _ c n e (record { count = refl; first = refl }))
  letter_bytes letter operands false false false false false true _ _ _ _ _ is e = rw (eqb-true letter 68 is) (DETECTION_BYTES operands e)
  letter_bytes letter operands false false false false false false _ _ _ _ _ _ e = absurd (cc e)

  pub head_bytes : (bytes : List ℕ) → head bytes ≡ whole c n → BeginWith bytes c n
  head_bytes [] e = absurd (cc e)
  head_bytes (letter ∷ operands) e = letter_bytes letter operands _ _ _ _ _ _ refl refl refl refl refl refl e
