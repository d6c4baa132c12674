-- A line for each command.
use Rattle.std.proofs.Common.{ℕ, ◌*◌, ◌≤◌, List, [], ◌∷◌, length, decimal, refl, arith, length-append}
use Rattle.std.proofs.lemmas.Fmt.{length-decimal-le}
use Rattle.lines.specs.declared.command.Command.{Command}
use Rattle.lines.specs.declared.command.Command.TheVariants.{Form, Open, Node, Enter, Abandon, Strike, Clear, Stands, Read, Show}
use Rattle.lines.specs.Grammar.{WritesNumbers, Asks, Says, SayableIsAskable, byte_of}
use Rattle.lines.specs.Replies.{spaced_numbers, AreWide}
use Rattle.lines.proofs.Lines.{WritesNumbers-spaced_numbers}

length-spaced_numbers : (ns : List ℕ) → AreWide ns → length (spaced_numbers ns) ≤ 21 * length ns
length-spaced_numbers [] w = omega arith
length-spaced_numbers (n ∷ ns) w =
    let number = length-decimal-le 20 n (omega arith) (omega (arith, w.0)) w.0 in
    let more = length-spaced_numbers ns w.1 in
    omega (arith, number, more, length-append (decimal n) (spaced_numbers ns))

-- a letter and some numbers make a line
line : (letter : ℕ) (ns : List ℕ) (c : Command) → AreWide ns → length ns ≤ 3 → (WritesNumbers (spaced_numbers ns) ns → Says letter (spaced_numbers ns) c) → (bytes : List ℕ) × Asks bytes c
line letter ns c w few says = (letter ∷ spaced_numbers ns, (let h = length-spaced_numbers ns w in omega arith, says (WritesNumbers-spaced_numbers ns w)))

pub sayable_is_askable : SayableIsAskable
sayable_is_askable (Form kind a b) s = line (byte_of "F") (kind ∷ a ∷ b ∷ []) (Form kind a b) (omega (arith, s.0), (omega (arith, s.1), (omega (arith, s.2), tt))) (omega arith) (λ ns. (refl, ns, s))
sayable_is_askable (Open set) s = line (byte_of "O") (set ∷ []) (Open set) (s, tt) (omega arith) (λ ns. (refl, ns))
sayable_is_askable (Node number a b) s = line (byte_of "N") (number ∷ a ∷ b ∷ []) (Node number a b) (omega (arith, s.0), (omega (arith, s.1), (omega (arith, s.2), tt))) (omega arith) (λ ns. (refl, ns, s))
sayable_is_askable Enter s = line (byte_of "E") [] Enter tt (omega arith) (λ ns. (refl, ns))
sayable_is_askable Abandon s = line (byte_of "A") [] Abandon tt (omega arith) (λ ns. (refl, ns))
sayable_is_askable (Strike at) s = line (byte_of "S") (at ∷ []) (Strike at) (s, tt) (omega arith) (λ ns. (refl, ns))
sayable_is_askable Clear s = line (byte_of "C") [] Clear tt (omega arith) (λ ns. (refl, ns))
sayable_is_askable (Stands set) s = line (byte_of "Q") (set ∷ []) (Stands set) (s, tt) (omega arith) (λ ns. (refl, ns))
sayable_is_askable (Read name) s = (byte_of "R" ∷ 32 ∷ name.now, (omega arith, (refl, refl)))
sayable_is_askable (Show set state) s = line (byte_of "H") (set ∷ state ∷ []) (Show set state) (s.0, (s.1, tt)) (omega arith) (λ ns. (refl, ns))
