-- Reading into the rest of a buffer, behind the bytes that it holds already.
use Prim.Native.Nat.{ℕ, ◌+◌, ◌-◌, ◌≤◌}
use native.Mathlib.Omega.{arith}
use mathlib.Core.Path.{◌≡◌}
use mathlib.Core.List.{List}
use lib.ListN.{length}
use borrow.Rule.Slice.PartMut.{mid_of, put_mid, mid_len, same_len_mid}

-- the buffer with its rest read anew is as long as before, and holds n bytes more
pub record More (buffer : List ℕ) (done : ℕ) (rest : List ℕ) (n : ℕ) : Type 0 where
  pub long : length (put_mid done (length buffer - done) buffer rest) ≡ length buffer
  pub within : done + n ≤ length buffer

pub more : (buffer : List ℕ) (done : ℕ) (rest : List ℕ) (n : ℕ) → done ≤ length buffer →
    length rest ≡ length (mid_of done (length buffer - done) buffer) → n ≤ length rest → More buffer done rest n
more buffer done rest n h same l =
    record {
      long = same_len_mid done (length buffer - done) buffer rest same;
      within = omega (arith, mid_len done (length buffer) buffer (omega arith));
    }
