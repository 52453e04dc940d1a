-- A first example of communication: two senders and one receiver on one channel.
use Rattle.std.specs.Prelude.{[], ◌∷◌}
use Rattle.calculus.specs.Trees.{Process, terminated, output, input, parallel}

-- with the free names x, y, z, v as pointers 0, 1, 2, 3: (x̄y ∣ x(u).ūv) ∣ x̄z
abbrev pub two_senders : Process
two_senders = parallel (parallel (output 0 (1 ∷ []) terminated) (input 0 1 (output 0 (4 ∷ []) terminated))) (output 0 (2 ∷ []) terminated)

-- y was sent: (0 ∣ ȳv) ∣ x̄z
abbrev pub first_sent : Process
first_sent = parallel (parallel terminated (output 1 (3 ∷ []) terminated)) (output 0 (2 ∷ []) terminated)

-- z was sent: (x̄y ∣ z̄v) ∣ 0
abbrev pub second_sent : Process
second_sent = parallel (parallel (output 0 (1 ∷ []) terminated) (output 2 (3 ∷ []) terminated)) terminated
