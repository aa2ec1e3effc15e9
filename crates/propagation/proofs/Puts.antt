-- A board on which a forced literal is set.
use Rattle.std.proofs.Common.{◌≡◌, ℕ, ◌<◌, ◌≤◌, List, [], ◌∷◌, length, get_or, set, ℤ, None, sym, subst, arith}
use Rattle.std.proofs.lemmas.List.{length_push}
use Rattle.holder.specs.Widest.{variable}
use Rattle.trials.specs.Values.{Value, value, sign}
use Rattle.trials.specs.Exist.{Within}
use Rattle.trials.specs.Forcing.{live, Forced, Calm}
use Rattle.forcing.specs.Boards.{WasPut}
use Rattle.forcing.proofs.Puts.{put_done}
use Rattle.propagation.specs.Waits.{Watched}
use Rattle.propagation.proofs.Steps.{Come, come_more, forced_open, forced_set, forced_in}
use Rattle.propagation.proofs.Waiting.{forced_calm, watched_put}

-- what a judgement said of a clause, of the list that it stands in
pub judged : (P : List Value → List ℤ → Type 0) {a b : List Value} {k c : List ℤ} → a ≡ b → k ≡ c → P a k → P b c
judged P {a} {b} {k} {c} e f p = subst (λ z. P z c) e (subst (λ z. P a z) f p)

-- what holds of the board after clause i has forced a literal
pub record Step (cs : List (List ℤ)) (b : List Value) (us : List ℕ) (i : ℕ) (d : List Value) (ws : List ℕ) : Type 1 where
  pub come : (a : List Value) (ts : List ℕ) → Come cs a ts b us → Come cs a ts d ws
  pub calm : Calm d (get_or cs i [])
  pub kept : (c : List ℤ) (from : ℕ) (E : Type 0) → from ≤ length us → Watched c b us from E → Watched c d ws from E
  pub longer : length us ≤ length ws

module _ (cs : List (List ℤ)) (b : List Value) (us : List ℕ) (i : ℕ) (l : ℤ) (v : ℕ) (x : Value) where
  pub step : Within (length b) cs → i < length cs → (live b (get_or cs i []) ≡ l ∷ []) × (value b l ≡ None) → v ≡ variable l → x ≡ sign l → (d : List Value) (ws : List ℕ) → WasPut b us v x d ws → Step cs b us i d ws
  step w h r n s d ws p =
      let f : Forced cs b l = record { clause = i; held = h; alone = r.0; opened = r.1 } in
      let o = forced_open cs b l f v x n s in
      let k = forced_in cs b l f v x n s w in
      let e = put_done b v x us d ws p k o (forced_set cs b l f v x n s) in
      subst (λ z. Step cs b us i z ws) (sym e.0) (subst (λ z. Step cs b us i (set b v x) z) (sym e.1) (record {
        come = λ a ts m. come_more cs b l f v x n s a ts us m;
        calm = forced_calm b (get_or cs i []) l v x r.0 r.1 n s k;
        kept = λ c from E g y. watched_put b v x o c us from E g y;
        longer = let q = length_push us v in omega arith;
      }))
