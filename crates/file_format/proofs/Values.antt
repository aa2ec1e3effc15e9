-- A record is in a value exactly if the value is the record laid out; and a field likewise. Assumes nothing.
use Rattle.std.proofs.Common.{◌≡◌, ℕ, ◌+◌, ◌*◌, ◌/◌, ◌%◌, ◌<◌, ◌≤◌, List, [], ◌∷◌, ◌++◌, length, Some, None, Option, refl, subst, ap, ◌∙◌, append_assoc, append-nil, arith}
use Rattle.std.proofs.lemmas.List.{take_at, drop_at, take-append-drop, length-take-le, length-append}
use Rattle.std.proofs.lemmas.Bool.Decides.{nat_tests}
use Rattle.runs.specs.Problems.{Axiom, Rule, Goal, Each}
use Rattle.file_format.specs.Fields.{ended, field, next_field, counted, then, axiom_in_value, rule_in_value, goal_in_value}
use Rattle.file_format.specs.Layout.{field_bytes, list_bytes}

-- the values of records
abbrev pub axiom_value : Axiom → List ℕ
axiom_value a = list_bytes a.premises ++ a.conclusion ∷ []

abbrev pub rule_value : Rule → List ℕ → List ℕ
rule_value r label = list_bytes r.needed ++ list_bytes r.forbidden ++ list_bytes r.left ++ label

abbrev pub goal_value : Goal → List ℕ
goal_value g = list_bytes g.wanted ++ list_bytes g.unwanted

module _ {A : Type 0} (xs ys : List A) where
  fits : length xs ≤ length (xs ++ ys)
  fits = simp length-append (omega arith)

counted_of : (fs bs : List ℕ) → counted (list_bytes fs ++ bs) ≡ Some (fs, bs)
counted_of fs bs = grind (arith, nat_tests, length-append fs bs, take_at fs bs (length fs) refl, drop_at fs bs (length fs) refl)

counted_all : (fs : List ℕ) → counted (list_bytes fs) ≡ Some (fs, [])
counted_all fs = subst (λ v. counted (length fs ∷ v) ≡ Some (fs, [])) (append-nil fs) (counted_of fs [])

counted_is : (v fs bs : List ℕ) → counted v ≡ Some (fs, bs) → v ≡ list_bytes fs ++ bs
counted_is [] fs bs e = cc
counted_is (n ∷ v) fs bs e = grind (arith, nat_tests, length-take-le n v, take-append-drop n v)

-- what follows a counted list, where all of it can be read
then_is : {A : Type 0} (o : Option (List ℕ × List ℕ)) (next : List ℕ → List ℕ → Option A) (x : A) → then o next ≡ Some x → (fs : List ℕ) × (bs : List ℕ) × (o ≡ Some (fs, bs)) × (next fs bs ≡ Some x)
then_is None next x e = cc
then_is (Some t) next x e = (t.0, t.1, refl, e)

-- a value that begins with a counted list, and what follows it
then_from : {A P : Type 0} (v : List ℕ) (next : List ℕ → List ℕ → Option A) (x : A) → then (counted v) next ≡ Some x → ((fs bs : List ℕ) → v ≡ list_bytes fs ++ bs → next fs bs ≡ Some x → P) → P
then_from v next x e k = let t = then_is (counted v) next x e in k t.0 t.1 (counted_is v t.0 t.1 t.2) t.3

pub axiom_of : (a : Axiom) → axiom_in_value (axiom_value a) ≡ Some a
axiom_of a = rw counted_of

pub axiom_is : (v : List ℕ) (a : Axiom) → axiom_in_value v ≡ Some a → v ≡ axiom_value a
axiom_is v a e = then_from v _ a e (λ premises bs i e. grind arith)

-- the three lists, and the label as what follows them
rule_lists : (r : Rule) (l : List ℕ) → rule_value r l ≡ list_bytes r.needed ++ (list_bytes r.forbidden ++ (list_bytes r.left ++ l))
rule_lists r l = simp append_assoc

pub rule_of : (r : Rule) (l : List ℕ) → rule_in_value (rule_value r l) ≡ Some (r, l)
rule_of r l = ap rule_in_value (rule_lists r l) ∙ rw (counted_of, counted_of, counted_of)

pub rule_is : (v : List ℕ) (r : Rule) (l : List ℕ) → rule_in_value v ≡ Some (r, l) → v ≡ rule_value r l
rule_is v r l e =
    then_from v _ (r, l) e (λ needed bs i e. then_from bs _ (r, l) e (λ forbidden cs j e. then_from cs _ (r, l) e (λ left label k e. grind (arith, rule_lists r l))))

pub goal_of : (g : Goal) → goal_in_value (goal_value g) ≡ Some g
goal_of g = rw counted_of (grind (arith, counted_of g.unwanted [], append-nil g.unwanted))

pub goal_is : (v : List ℕ) (g : Goal) → goal_in_value v ≡ Some g → v ≡ goal_value g
goal_is v g e = then_from v _ g e (λ wanted bs i e. then_from bs _ g e (λ unwanted cs j e. grind (arith, append-nil unwanted)))

-- a field, and what follows it
pub field_of : (low high t : ℕ) (v bs : List ℕ) → low ≤ t → t ≤ high → next_field low high (field_bytes t v ++ bs) ≡ field t v bs
field_of low high t v bs h k =
    let long : 256 * (length v / 256) + length v % 256 ≡ length v = omega arith in
    grind (arith, nat_tests, length-append v bs, take_at v bs (length v) refl, drop_at v bs (length v) refl)

-- where nothing is found, nothing is left
pub none_left : (low high : ℕ) (bs : List ℕ) → next_field low high bs ≡ ended → bs ≡ []
none_left low high bs e = grind arith

pub field_is : (low high t : ℕ) (v rest bs : List ℕ) → Each (λ b. b < 256) bs → next_field low high bs ≡ field t v rest → (bs ≡ field_bytes t v ++ rest) × (low ≤ t) × (t ≤ high)
field_is low high t v rest [] h e = cc
field_is low high t v rest (s ∷ []) h e = cc
field_is low high t v rest (s ∷ m ∷ []) h e = cc
field_is low high t v rest (s ∷ m ∷ l ∷ bs) h e = grind (arith, nat_tests, length-take-le (256 * m + l) bs, take-append-drop (256 * m + l) bs)
