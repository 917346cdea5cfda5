-- Bytes put into a buffer one after the other.
use Rattle.std.proofs.Common.{◌≡◌, ℕ, suc, ◌+◌, ◌-◌, ◌/◌, ◌%◌, ◌^◌, ◌<◌, ◌≤◌, List, [], ◌∷◌, ◌++◌, length, take, drop, set, Ok, sym, refl, ap, ◌∙◌, append_assoc, pow-suc, arith, length-append}
use Rattle.std.proofs.lemmas.List.{take-append-drop, take_more_set, drop-set-lt, drop_at, length-take-le, length-drop, take_all}
use Rattle.std.proofs.lemmas.Slice.{take-put_mid, drop-put_mid}
use borrow.Rule.Slice.PartMut.{put_mid}
use Rattle.number.specs.Groups.{groups}
use Rattle.number.specs.Forms.{spread, form, Form}
use Rattle.number.specs.Reads.{first, read_number}
use Rattle.number.proofs.Formed.{length-form, has-form}
use Rattle.number.proofs.Exact.{reads-form}

-- one byte more of a number that is spread over n bytes and a last one
pub spread-more : (items : List ℕ) (n i rest : ℕ) → i < length items → i < n
    → take (i + 1) (set items i (128 + rest % 128)) ++ spread (suc (n - (i + 1))) (rest / 128) ≡ take i items ++ spread (suc (n - i)) rest
spread-more items n i rest h g =
    let e : n - i ≡ suc (n - (i + 1)) = omega arith in
    rw (e, take_more_set items i (128 + rest % 128) h) (append_assoc (take i items) ((128 + rest % 128) ∷ []) (spread (suc (n - (i + 1))) (rest / 128)))

pub rest-less : (last i rest : ℕ) → i < last → rest < 128 ^ suc (last - i) → rest / 128 < 128 ^ suc (last - (i + 1))
rest-less last i rest h g =
    let e : last - i ≡ suc (last - (i + 1)) = omega arith in
    let k : rest < 128 ^ suc (suc (last - (i + 1))) = rw e at g in
    omega (arith, pow-suc 128 (suc (last - (i + 1))))

-- a form among other bytes is read as its value
pub reads-among : (value : ℕ) (before bytes after : List ℕ) → Form value bytes → read_number (before ++ (bytes ++ after)) (length before) ≡ Ok (value, length before + length bytes)
unfolding read_number
reads-among value before bytes after f =
    ap (λ (rest : List ℕ). first rest (length before) (length (before ++ (bytes ++ after)))) (drop_at before (bytes ++ after) (length before) refl)
    ∙ reads-form value bytes after (length before) (length (before ++ (bytes ++ after))) f

-- the last byte is put behind those of the part from `at` to `last`
last-put : (before items : List ℕ) (at last rest : ℕ) → at + length items ≡ last → last < length before
    → set (put_mid at (last - at) before items) last rest ≡ take at before ++ ((items ++ rest ∷ []) ++ drop (last + 1) before)
last-put before items at last rest size room =
    let k = last - at in
    let out = put_mid at k before items in
    let same : length out ≡ length before =
    omega (arith, length-append (take at before) (items ++ drop k (drop at before)), length-append items (drop k (drop at before)), length-take-le at before (omega arith), length-drop k (drop at before), length-drop at before) in
    let front : take (last + 1) (set out last rest) ≡ take last out ++ rest ∷ [] = take_more_set out last rest (omega arith) in
    let part : take last out ≡ take at before ++ items = take-put_mid at k before items last (omega arith) (omega arith) in
    let back : drop (last + 1) (set out last rest) ≡ drop (last + 1) before = drop-set-lt (last + 1) out last rest (omega arith) ∙ drop-put_mid at k before items (last + 1) (omega arith) (omega arith) (omega arith) in
    sym (take-append-drop (last + 1) (set out last rest)) ∙ rw (front, part, back) (simp append_assoc)

-- the buffer once the last byte is put
pub written : (before items : List ℕ) (at last i rest value : ℕ) → value ≤ 65535 → last + 1 ≡ at + groups value → last < length before → at + length items ≡ last → i ≡ length items
    → take i items ++ spread (suc (length items - i)) rest ≡ spread (suc (length items)) value
    → (set (put_mid at (last - at) before items) last rest ≡ take at before ++ (form value ++ drop (last + 1) before))
    × (read_number (set (put_mid at (last - at) before items) last rest) at ≡ Ok (value, last + 1))
unfolding form
written before items at last i rest value small size room long done same =
    let count : suc (length items) ≡ groups value = omega arith in
    let none : length items - i ≡ 0 = omega arith in
    let bytes : items ++ rest ∷ [] ≡ form value = ap (λ (l : List ℕ). l ++ rest ∷ []) (sym (take_all i items (omega arith))) ∙ (rw none at same) ∙ ap (λ (k : ℕ). spread k value) count in
    let to : last + 1 ≡ at + length (form value) = size ∙ ap (λ (n : ℕ). at + n) (sym (length-form value)) in
    let put : set (put_mid at (last - at) before items) last rest ≡ take at before ++ (form value ++ drop (last + 1) before) =
    last-put before items at last rest long room ∙ ap (λ (l : List ℕ). take at before ++ (l ++ drop (last + 1) before)) bytes in
    let front : length (take at before) ≡ at = length-take-le at before (omega arith) in
    let read : read_number (take at before ++ (form value ++ drop (last + 1) before)) at ≡ Ok (value, at + length (form value)) =
    rw front at (reads-among value (take at before) (form value) (drop (last + 1) before) (has-form value small)) in
    (put, rw put (read ∙ ap (λ (n : ℕ). Ok (value, n)) (sym to)))
