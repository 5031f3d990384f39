-- A line in the output, ended by byte 10.
use Rattle.std.proofs.Common.{◌≡◌, ℕ, ◌+◌, ◌<◌, ◌≤◌, List, [], ◌∷◌, ◌++◌, length, take, drop, set, sym, ap, ◌∙◌, append_assoc, arith, length-append, length-drop, length-take-le, drop-drop, take-append-drop}
use Rattle.std.proofs.lemmas.List.{drop-append-le}
use borrow.Rule.Slice.PartMut.{put_mid}
use Rattle.stepping.specs.Buffers.{Filled, Adds}
use Rattle.stepping.proofs.Adding.{both, byte_written, same_length}

-- the part of a line ends where the part of the output does
pub ends_within : (room : List ℕ) (text part : List ℕ) (n : ℕ) → Filled room part n text → length part ≡ length room → n ≤ length room
ends_within room text part n w h = omega (arith, w.0, ap length w.1, length-append text (drop n room), length-drop n room, h)

-- what follows a text in its part, and then in the output
pub rest_kept : (k n : ℕ) (xs : List ℕ) → n ≤ k → k ≤ length xs → drop n (take k xs) ++ drop k xs ≡ drop n xs
rest_kept k n xs h fits = sym (drop-append-le n (take k xs) (drop k xs) (omega (arith, length-take-le k xs fits))) ∙ ap (drop n) (take-append-drop k xs)

pub line_added : (old : List ℕ) (at k n : ℕ) (text part : List ℕ) → at + k < length old → Filled (take k (drop at old)) part n text → n ≤ k →
    Adds old at (text ++ 10 ∷ []) (set (put_mid at k old part) (at + n) 10) (at + n + 1)
line_added old at k n text part h w low =
    let text_in : Adds old at text (put_mid at k old part) (at + n) = record {
      end = ap (λ m. at + m) w.0;
      within = omega arith;
      holds =
          ap (λ l. take at old ++ (l ++ drop k (drop at old))) w.1
          ∙ ap (λ l. take at old ++ l) (append_assoc text (drop n (take k (drop at old))) (drop k (drop at old)) ∙ ap (λ l. text ++ l) (rest_kept k n (drop at old) low (omega (arith, length-drop at old)) ∙ drop-drop n at old))
          ∙ sym (append_assoc (take at old) text (drop (at + n) old));
    } in
    both text_in (byte_written (put_mid at k old part) (at + n) 10 (let same : length (put_mid at k old part) ≡ length old = same_length text_in in omega arith))
