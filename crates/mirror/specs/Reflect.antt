-- What a cube without a mutant sought tells of transitions that lead to an exchangeable state.
use Rattle.std.specs.Prelude.{◌≡◌, List, ℕ, ◌<◌, length, get_or}
use Rattle.model.specs.Machine.{Move}
use Rattle.block.specs.Layout.{pair, site_at, inputs_of}
use Rattle.cubes.specs.Sets.{Has}
use Rattle.cubes.specs.Cube.{Means, NoneIn, Joining}
use Rattle.cubes.specs.declared.goal.Goal.{Goal}
use Rattle.mirror.specs.Mirror.{turned, Below, Exchangeable}

-- the cube does not speak of the pair k
abbrev pub Quiet : List ℕ → List ℕ → ℕ → Type 0
Quiet m cube k = (site_at m k ≡ 255 → ⊥) → get_or cube (site_at m k) 0 ≡ 4294967295

-- nor of any pair of the state s
abbrev pub Silent : List ℕ → List ℕ → ℕ → Type 0
Silent m cube s = Below (λ x. Quiet m cube (pair s x)) (inputs_of m)

-- what the literal means it means with a and b exchanged too
pub record Blind (a b l : ℕ) : Type 0 where
  pub at : (v : Move) → Means l v → Means l (turned a b v)

-- so every literal but that of i
abbrev pub BlindBut : List ℕ → ℕ → ℕ → ℕ → Type 0
BlindBut cube i a b = Below (λ j. (j ≡ i → ⊥) → Blind a b (get_or cube j 0)) 32

-- a and b can be exchanged, and the cube tells them apart only by its literal of i or at pairs of a
pub record Mirrors (m cube : List ℕ) (i a b : ℕ) : Type 0 where
  pub exchange : Exchangeable m a b
  pub silent : Silent m cube b
  pub blind : BlindBut cube i a b

-- what `all` means at a suspect other than i the cube means too
pub record Under (all cube : List ℕ) (i : ℕ) : Type 0 where
  pub at : (j : ℕ) → j < 32 → (j ≡ i → ⊥) → (v : Move) → Means (get_or all j 0) v → Means (get_or cube j 0) v

-- `wider` has what `done` has, and besides only transitions of the pair k with which no mutant in `all` is sought
pub record ReflectedOk (m cube done wider : List ℕ) (k : ℕ) : Type 0 where
  pub long : length wider ≡ 16
  pub keeps : (v : Move) → Has (get_or done v.output 0) v.target → Has (get_or wider v.output 0) v.target
  pub joins : (goal : Goal) (log all : List ℕ) → NoneIn goal m log cube → Under all cube (site_at m k) → Joining goal m log all done k → Joining goal m log all wider k
