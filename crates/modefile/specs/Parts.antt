-- The parts of a file whose contents are in order.
use Rattle.std.specs.Prelude.{◌≡◌, ℕ, ◌+◌, ◌*◌, ◌<◌, ◌≤◌, Bool, true, if◌then◌else◌, not, ◌&&◌, List, length, take, drop, is_some, Ok, Err, Result, nat_lt}
use Rattle.forms.specs.declared.refusal.Refusal.{Refusal}
use Rattle.forms.specs.declared.refusal.Refusal.TheVariants.{NoPartLeft}
use Rattle.modefile.specs.declared.part.Kind.{Kind}
use Rattle.modefile.specs.declared.part.Part.{Part}
use Rattle.modefile.specs.declared.part.Part.TheVariants.{Forms, Modes, Tree}
use Rattle.modefile.specs.Contents.{count, kind_at, kind_number, length_at, place_at, fault}

-- what is known of a part: the number of its kind, the bytes of its body, and where in the file they begin
abbrev pub Told : Type 0
Told = ℕ × List ℕ × ℕ

abbrev pub told_of : Part → Told
told_of (Forms body place) = (1, body.now, place)
told_of (Modes body place) = (2, body.now, place)
told_of (Tree body place) = (3, body.now, place)

abbrev pub told_result : Result Part Refusal → Result Told Refusal
told_result (Ok part) = Ok (told_of part)
told_result (Err why) = Err why

-- whether the contents are in order and tell of a part i
abbrev pub has_part : List ℕ → ℕ → Bool
has_part bs i = not (is_some (fault bs)) && nat_lt i (count bs)

-- a part that is there has its contents line and its body within the file, and is of a known kind
pub record IsWithin (bs : List ℕ) (i : ℕ) : Type 0 where
  pub few : i < 16
  pub line : 5 + 5 * i < length bs
  pub kind : (1 ≤ kind_at bs i) × (kind_at bs i ≤ 3)
  pub body : place_at bs i + length_at bs i ≤ length bs

-- a part that is there, with its kind and the length of its body
pub record IsEntry (bs : List ℕ) (i : ℕ) (kind : Kind) (len : ℕ) : Type 0 where
  pub there : has_part bs i ≡ true
  pub within : IsWithin bs i
  pub number : kind_number kind ≡ kind_at bs i
  pub long : len ≡ length_at bs i
  pub onward : place_at bs (i + 1) ≡ place_at bs i + len

-- part i, if there is one
abbrev pub part_at : List ℕ → ℕ → Result Told Refusal
part_at bs i =
    if has_part bs i
    then Ok (kind_at bs i, take (length_at bs i) (drop (place_at bs i) bs), place_at bs i)
    else Err NoPartLeft

-- the number of the part to hand out after part i
abbrev pub following_part : List ℕ → ℕ → ℕ
following_part bs i = if has_part bs i then i + 1 else i
