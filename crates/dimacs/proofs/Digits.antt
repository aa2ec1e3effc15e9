-- A number and its sign, written in parts. Assumes nothing.
use Rattle.std.proofs.Common.{◌≡◌, ℕ, ◌/◌, ◌%◌, ◌^◌, ◌<◌, ◌≤◌, true, false, List, [], ◌∷◌, ◌++◌, ℤ, pos, negsuc, nat_abs, decimal, sym, refl, ap, ◌∙◌, append_assoc, arith}
use lib.Signed.{lt_z}
use Rattle.std.specs.Fmt.{signed_decimal}
use Rattle.std.proofs.lemmas.Fmt.{decimal_digit, decimal_step}

module _ (was mid : List ℕ) (n : ℕ) where
  -- all digits but the last, and then the last
  pub last_digit : 10 ≤ n → n < 2 ^ 64 → mid ≡ was ++ decimal (n / 10) → mid ++ decimal (n % 10) ≡ was ++ decimal n
  last_digit l h e =
      ap (λ z. z ++ decimal (n % 10)) e
      ∙ append_assoc was (decimal (n / 10)) (decimal (n % 10))
      ∙ ap (λ z. was ++ (decimal (n / 10) ++ z)) (decimal_digit (n % 10) (omega arith))
      ∙ ap (λ z. was ++ z) (sym (decimal_step n l h))

  pub only_digit : n < 10 → mid ≡ was → mid ++ decimal (n % 10) ≡ was ++ decimal n
  only_digit l e = let m : n % 10 ≡ n = omega arith in ap (λ z. z ++ decimal (n % 10)) e ∙ ap (λ m. was ++ decimal m) m

signed_below : (l : ℤ) → lt_z l (pos 0) ≡ true → 45 ∷ decimal (nat_abs l) ≡ signed_decimal l
signed_below (pos n) h = grind arith
signed_below (negsuc n) h = refl

signed_plain : (l : ℤ) → lt_z l (pos 0) ≡ false → decimal (nat_abs l) ≡ signed_decimal l
signed_plain (pos n) h = refl
signed_plain (negsuc n) h = grind arith

module _ (was mid : List ℕ) (l : ℤ) where
  pub with_sign : lt_z l (pos 0) ≡ true → mid ≡ was ++ 45 ∷ [] → mid ++ decimal (nat_abs l) ≡ was ++ signed_decimal l
  with_sign h e =
      ap (λ z. z ++ decimal (nat_abs l)) e
      ∙ append_assoc was (45 ∷ []) (decimal (nat_abs l))
      ∙ ap (λ z. was ++ z) (signed_below l h)

  pub without_sign : lt_z l (pos 0) ≡ false → mid ≡ was → mid ++ decimal (nat_abs l) ≡ was ++ signed_decimal l
  without_sign h e = ap (λ z. z ++ decimal (nat_abs l)) e ∙ ap (λ z. was ++ z) (signed_plain l h)

  -- the number after its sign, and then a space
  pub with_space : (out : List ℕ) (n : ℕ) → n ≡ nat_abs l → out ≡ mid ++ decimal n → mid ++ decimal (nat_abs l) ≡ was ++ signed_decimal l → out ++ 32 ∷ [] ≡ was ++ (signed_decimal l ++ 32 ∷ [])
  with_space out n a e f = ap (λ z. z ++ 32 ∷ []) (e ∙ ap (λ m. mid ++ decimal m) a ∙ f) ∙ append_assoc was (signed_decimal l) (32 ∷ [])
