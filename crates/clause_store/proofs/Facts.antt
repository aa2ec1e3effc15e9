-- What the calls answer, of clauses that lie one after another.
use Rattle.std.proofs.Common.{◌≡◌, ℕ, ◌+◌, ◌-◌, ◌<◌, ◌≤◌, true, false, cond, leb, List, [], ◌∷◌, ◌++◌, length, get_or, take, drop, ℤ, Ok, Err, sym, ap, ◌∙◌, arith, length-drop, length-take}
use Rattle.std.proofs.lemmas.Bool.{and_from, and_left, and_right, le-leb, lt-leb, cond-true, cond-false}
use Rattle.std.proofs.lemmas.List.{get_or-take, get_or-drop, get_or_read, length_push}
use Rattle.holder.specs.Clauses.{Stood, Rest, proper, size, fits, grown}
use Rattle.holder.specs.Answers.{taken, was_cut}
use Rattle.holder.specs.declared.size.Size.{Size}
use Rattle.refusals.specs.declared.refusal.Refusal.TheVariants.{BadClause, CutBeyond, NoRoom}
use Rattle.clause_store.specs.Flat.{cut_up, ordered, end_of}
use Rattle.clause_store.specs.Sizes.{length-cut_up, size-cut_up}
use Rattle.clause_store.proofs.Cuts.{cut_up_at, end_step, size-push}

module _ (es : List ℕ) (xs : List ℤ) (most : Size) (rest : Rest) where
  abbrev cs : List (List ℤ)
  cs = cut_up 0 es xs

  abbrev at : Stood
  at = record { held = cs; limits = most; rest = rest }

  pub cut_past : (n : ℕ) → length es < n → Err CutBeyond ≡ was_cut at n
  cut_past n l = let e = length-cut_up 0 es xs in sym (cond-false (leb n (length cs)) (Ok tt) (Err CutBeyond) (lt-leb n (length cs) (omega arith)))

  pub cut_fine : (n : ℕ) → n ≤ length es → Ok tt ≡ was_cut at n
  cut_fine n l = let e = length-cut_up 0 es xs in sym (cond-true (leb n (length cs)) (Ok tt) (Err CutBeyond) (le-leb n (length cs) (omega arith)))

  -- `taken`, by what the code tests
  module _ (c : List ℤ) where
    pub take_wrong : proper c ≡ false → Err BadClause ≡ taken at c
    take_wrong z = sym (cond-false (proper c) (cond (fits (grown at (c ∷ []))) (Ok tt) (Err NoRoom)) (Err BadClause) z)

    no_room : proper c ≡ true → fits (grown at (c ∷ [])) ≡ false → Err NoRoom ≡ taken at c
    no_room z f = sym (cond-true (proper c) _ _ z ∙ cond-false (fits (grown at (c ∷ []))) (Ok tt) (Err NoRoom) f)

    pub take_full : proper c ≡ true → most.clauses ≤ length es → Err NoRoom ≡ taken at c
    take_full z l =
        let e = length-cut_up 0 es xs in
        let f = length_push cs c in
        no_room z (and_left _ _ (lt-leb (length (cs ++ c ∷ [])) most.clauses (omega arith)))

  module _ (order : ordered 0 es (length xs) ≡ true) where
    module _ (c : List ℤ) where
      pub take_long : proper c ≡ true → most.literals < length xs + length c → Err NoRoom ≡ taken at c
      take_long z l =
          let e = size-cut_up 0 es xs order in
          let f = size-push cs c in
          no_room c z (and_right _ _ (lt-leb (size (cs ++ c ∷ [])) most.literals (omega arith)))

      pub take_fine : proper c ≡ true → length es < most.clauses → length xs + length c ≤ most.literals → Ok tt ≡ taken at c
      take_fine z l m =
          let e = size-cut_up 0 es xs order in
          let n = length-cut_up 0 es xs in
          let f = size-push cs c in
          let g = length_push cs c in
          sym (cond-true (proper c) _ _ z ∙ cond-true (fits (grown at (c ∷ []))) (Ok tt) (Err NoRoom) (and_from _ _ (le-leb (length (cs ++ c ∷ [])) most.clauses (omega arith)) (le-leb (size (cs ++ c ∷ [])) most.literals (omega arith))))

module _ (es : List ℕ) (xs : List ℤ) (order : ordered 0 es (length xs) ≡ true) where
  -- the literal j of the clause i, between the places s and e
  module _ (i s e : ℕ) (within : i < length es) (start : s ≡ end_of 0 i es) (end : e ≡ get_or es i e) where
    at_i : e ≡ get_or es i 0
    at_i = get_or_read es i e within end 0

    pub ends_up : (s ≤ e) × (e ≤ length xs)
    ends_up = let t = end_step 0 i es (length xs) order within in let a = t.0 in let b = t.1 in let f = at_i in (omega arith, omega arith)

    pub clause_is : get_or (cut_up 0 es xs) i [] ≡ take (e - s) (drop s xs)
    clause_is = let f = at_i in cut_up_at 0 i es xs within ∙ ap (λ z. take (z - end_of 0 i es) (drop (end_of 0 i es) xs)) (sym f) ∙ ap (λ z. take (e - z) (drop z xs)) (sym start)

    pub clause_long : length (get_or (cut_up 0 es xs) i []) ≡ e - s
    clause_long = let t = ends_up in let a = t.0 in let b = t.1 in ap length clause_is ∙ simp (length-take, length-drop) (omega arith)

    pub literal_is : (j : ℕ) (x d : ℤ) → j < e - s → x ≡ get_or xs (s + j) x → x ≡ get_or (get_or (cut_up 0 es xs) i []) j d
    literal_is j x d l read =
        let t = ends_up in
        let b = t.1 in
        get_or_read xs (s + j) x (omega arith) read d ∙ sym (ap (λ z. get_or z j d) clause_is ∙ get_or-take (e - s) (drop s xs) j d l ∙ get_or-drop s xs j d)
