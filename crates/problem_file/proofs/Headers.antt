-- The field at a place of a file, by the bytes there.
use Rattle.std.proofs.Common.{◌≡◌, ℕ, ◌+◌, ◌-◌, ◌*◌, ◌<◌, ◌≤◌, Bool, false, cond, ◌&&◌, leb, ◌⊎◌, List, [], ◌∷◌, length, get_or, take, drop, sym, refl, ap, ◌∙◌, inl, inr, arith}
use Rattle.std.proofs.lemmas.List.{drop_all, drop_more, drop-drop, length-drop, length-take-le}
use Rattle.std.proofs.lemmas.Bool.{le-leb, lt-leb, and_from, and_left, and_right, cond-true, cond-false}
use Rattle.file_format.specs.Fields.{ended, short, wrong, field, tagged, next_field}

pub few : (low high : ℕ) (bs : List ℕ) → 0 < length bs → length bs < 3 → next_field low high bs ≡ short
few low high [] p q = absurd (omega arith)
few low high (a ∷ []) p q = refl
few low high (a ∷ b ∷ []) p q = refl
few low high (a ∷ b ∷ c ∷ bs) p q = absurd (omega (arith, q))

module _ (low high t n : ℕ) (bs : List ℕ) where
  pub too_short : length bs < n → tagged low high t n bs ≡ short
  too_short h = cond-false _ _ _ (lt-leb n (length bs) h)

  pub off_limits : n ≤ length bs → (t < low) ⊎ (high < t) → tagged low high t n bs ≡ wrong
  off_limits h k = cond-true _ (cond inside (field t (take n bs) (drop n bs)) wrong) short (le-leb n (length bs) h) ∙ cond-false inside _ _ outside
    where
      inside : Bool
      inside = leb low t && leb t high

      outside : inside ≡ false
      outside = elim k [ inl p ↦ and_left (leb low t) (leb t high) (lt-leb low t p) | inr p ↦ and_right (leb low t) (leb t high) (lt-leb t high p) ]

  pub within : n ≤ length bs → low ≤ t → t ≤ high → tagged low high t n bs ≡ field t (take n bs) (drop n bs)
  within h p q = cond-true _ _ _ (le-leb n (length bs) h) ∙ cond-true _ _ _ (and_from _ _ (le-leb low t p) (le-leb t high q))

module _ (low high at : ℕ) (file : List ℕ) where
  pub at_end : length file ≤ at → next_field low high (drop at file) ≡ ended
  at_end h = ap (next_field low high) (drop_all at file h)

  pub cut_header : at < length file → length file - at < 3 → next_field low high (drop at file) ≡ short
  cut_header h k = let l = length-drop at file in few low high (drop at file) (omega arith) (omega arith)

  abbrev size_at : ℕ
  size_at = 256 * get_or file (at + 1) 0 + get_or file (at + 2) 0

  pub header : at + 3 ≤ length file → next_field low high (drop at file) ≡ tagged low high (get_or file at 0) size_at (drop (at + 3) file)
  header h =
      let a = drop_more file at 0 (omega arith) in
      let b = drop_more file (at + 1) 0 (omega arith) in
      let c = drop_more file (at + 2) 0 (omega arith) in
      let x : drop (at + 1 + 1) file ≡ drop (at + 2) file = ap (λ i. drop i file) (omega arith) in
      let y : drop (at + 2 + 1) file ≡ drop (at + 3) file = ap (λ i. drop i file) (omega arith) in
      let tail : drop (at + 1) file ≡ get_or file (at + 1) 0 ∷ get_or file (at + 2) 0 ∷ drop (at + 3) file = b ∙ ap (λ l. get_or file (at + 1) 0 ∷ l) (x ∙ c ∙ ap (λ l. get_or file (at + 2) 0 ∷ l) y) in
      ap (next_field low high) (a ∙ ap (λ l. get_or file at 0 ∷ l) tail)

  -- the value and what follows it, as parts of the file
  pub found_at : (v : List ℕ) → at + 3 ≤ length file → at + 3 + size_at ≤ length file → low ≤ get_or file at 0 → get_or file at 0 ≤ high → v ≡ take size_at (drop (at + 3) file) → (next_field low high (drop at file) ≡ field (get_or file at 0) v (drop (at + 3 + length v) file)) × (at + 3 + length v ≤ length file)
  found_at v h k p q e =
      let l = length-drop (at + 3) file in
      let fits : size_at ≤ length (drop (at + 3) file) = omega arith in
      let long : length v ≡ size_at = ap length e ∙ length-take-le size_at (drop (at + 3) file) fits in
      let is = header h ∙ within low high (get_or file at 0) size_at (drop (at + 3) file) fits p q in
      let rest : drop size_at (drop (at + 3) file) ≡ drop (at + 3 + length v) file = drop-drop size_at (at + 3) file ∙ ap (λ n. drop (at + 3 + n) file) (sym long) in
      (is ∙ ap (λ w. field (get_or file at 0) w (drop size_at (drop (at + 3) file))) (sym e) ∙ ap (field (get_or file at 0) v) rest, omega arith)
