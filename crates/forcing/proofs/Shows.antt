-- Assignments as bytes.
use Rattle.std.proofs.Common.{◌≡◌, ℕ, ◌+◌, ◌<◌, ◌≤◌, Bool, true, false, List, [], ◌∷◌, map, length, get_or, take, drop, ℤ, sym, refl, ap, ◌∙◌, subst, arith, length-drop, length-take, None, Some}
use Rattle.std.proofs.Math.ListN.{get_or-map}
use Rattle.std.proofs.lemmas.List.{get_or-take, get_or-drop, length-map, ext_get_or}
use Rattle.runs.specs.Models.{Model}
use Rattle.settler.specs.Settling.{bits, Fills}
use Rattle.trials.specs.Values.{Value, is_true, model_of}
use Rattle.forcing.specs.Shown.{byte, Shown}

byte_small : (x : Value) → byte x < 2
byte_small x = grind arith

bits_bytes : (xs : List Value) → bits (map byte xs) ≡ map is_true xs
bits_bytes [] = refl
bits_bytes (None ∷ xs) = ap (λ z. false ∷ z) (bits_bytes xs)
bits_bytes ((Some true) ∷ xs) = ap (λ z. true ∷ z) (bits_bytes xs)
bits_bytes ((Some false) ∷ xs) = ap (λ z. false ∷ z) (bits_bytes xs)

module _ (n : ℕ) (a : List Value) (b b' : List ℕ) (listed : n < length a) (room : n ≤ length b) (s : Shown n a b b') where
  shown_at : (k : ℕ) → k < n → get_or (take n b') k 0 ≡ byte (get_or a (k + 1) None)
  shown_at k l = get_or-take n b' k 0 l ∙ s.at k l (omega arith)

  front_long : length (take n b') ≡ n
  front_long = let e = s.long in simp length-take (omega arith)

  values_long : length (map byte (take n (drop 1 a))) ≡ n
  values_long = length-map (take n (drop 1 a)) byte ∙ simp (length-take, length-drop) (omega arith)

  front_is : take n b' ≡ map byte (take n (drop 1 a))
  front_is = ext_get_or 0 (take n b') (map byte (take n (drop 1 a))) (front_long ∙ sym values_long) (λ k l.
      let m : k < n = omega (arith, front_long) in
      let e : 1 + k ≡ k + 1 = omega arith in
      shown_at k m ∙ sym (get_or-map byte (take n (drop 1 a)) k None ∙ ap byte (get_or-take n (drop 1 a) k None m ∙ get_or-drop 1 a k None ∙ ap (λ (z : ℕ). get_or a z None) e)))

  pub shown_fills : (cs : List (List ℤ)) → Model n cs (model_of n a) → Fills n cs (take n b')
  shown_fills cs m = record {
    small = λ k l. let e = shown_at k l in let h = byte_small (get_or a (k + 1) None) in omega arith;
    model = subst (λ (z : List Bool). Model n cs z) (sym (ap bits front_is ∙ bits_bytes (take n (drop 1 a)))) m;
  }
