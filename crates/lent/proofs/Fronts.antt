-- Writing behind what already stands at the front of a buffer: the bytes written so far are `front p o`, and each write makes p longer.
use Prim.Native.Nat.{ℕ, ◌+◌, ◌≤◌}
use mathlib.Core.Path.{◌≡◌, refl}
use mathlib.Core.List.{List, [], ◌++◌}
use native.Mathlib.Omega.{arith}
use lib.ListN.{length, take, drop, length-append, length-drop}
use lib.Seq.{take-append_seam, drop-append_seam, drop-append-add, drop-drop}
use borrow.Author.Tests.{le-leb}
use Rattle.lent.specs.Bytes.{put, put_within, front}

-- nothing written yet
pub front_none : (o : List ℕ) → o ≡ front [] o
unfolding front
front_none o = refl

-- a run written behind p
pub put_front : (p o s : List ℕ) → put (front p o) (length p) s ≡ front (p ++ s) o
unfolding put front
put_front p o s = rw (take-append_seam, drop-append-add, drop-drop, length-append)

-- the buffer keeps its length, ..
pub length_front : (p o : List ℕ) → length p ≤ length o → length (front p o) ≡ length o
unfolding front
length_front p o h = simp (length-append, length-drop) (omega arith)

-- .. begins with p, ..
pub take_front : (p o : List ℕ) → take (length p) (front p o) ≡ p
unfolding front
take_front p o = take-append_seam p (drop (length p) o)

-- .. and is as it was behind it
pub drop_front : (p o : List ℕ) → drop (length p) (front p o) ≡ drop (length p) o
unfolding front
drop_front p o = drop-append_seam p (drop (length p) o)

-- a run that fits is put
pub put_within_lem : (d s : List ℕ) (at : ℕ) → at + length s ≤ length d → put_within d at s ≡ put d at s
unfolding put_within
put_within_lem d s at h = simp (le-leb _ _ h)
