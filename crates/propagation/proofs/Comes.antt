-- Forcing on and on.
use Rattle.std.proofs.Common.{◌≡◌, ℕ, List, [], ◌∷◌, ◌++◌, length, take, drop, set, ℤ, sym, refl, ap, ◌∙◌, None}
use Rattle.std.proofs.lemmas.List.{take-take, take-append-drop, drop-append-le}
use Rattle.trials.specs.Values.{Value}
use Rattle.forcing.specs.Boards.{unset, Back}
use Rattle.forcing.proofs.Backs.{back_within}
use Rattle.trials.proofs.Confluence.{forcing_more}
use Rattle.propagation.proofs.Steps.{Come}

unset_append : (a : List Value) (vs ws : List ℕ) → unset a (vs ++ ws) ≡ unset (unset a ws) vs
unfolding unset
unset_append a [] ws = refl
unset_append a (v ∷ vs) ws = ap (λ z. set z v None) (unset_append a vs ws)

pub back_trans : {a b d : List Value} {ts us ws : List ℕ} → Back a ts b us → Back b us d ws → Back a ts d ws
back_trans {d = d} {ts} {us} {ws} r q =
    let l = back_within r in
    let m = length us in
    let n = length ts in
    let split : ws ≡ us ++ drop m ws = sym (take-append-drop m ws) ∙ ap (λ (z : List ℕ). z ++ drop m ws) q.front in
    record {
      front = sym (take-take n m ws l) ∙ ap (take n) q.front ∙ r.front;
      undone = ap (λ z. unset d (drop n z)) split ∙ ap (unset d) (drop-append-le n us (drop m ws) l) ∙ unset_append d (drop n us) (drop m ws) ∙ ap (λ z. unset z (drop n us)) q.undone ∙ r.undone;
      long = q.long ∙ r.long;
    }

pub come_trans : {cs : List (List ℤ)} {a b d : List Value} {ts us ws : List ℕ} → Come cs a ts b us → Come cs b us d ws → Come cs a ts d ws
come_trans {cs} r q = record { run = forcing_more cs r.run q.run; back = back_trans r.back q.back }
