-- What a process can do at once: its prefixes that stand below no other prefix.
use Rattle.std.specs.Prelude.{Bool, true, false, ◌||◌}
use Rattle.calculus.specs.Trees.{Process, terminated, output, input, choice, parallel, restriction, replication}

pub data Action : Type 0 where
  sending : Action
  receiving : Action

unfoldable pub is_sending : Action → Bool
is_sending sending = true
is_sending receiving = false

unfoldable pub is_receiving : Action → Bool
is_receiving sending = false
is_receiving receiving = true

-- whether an output, or an input, stands below no prefix
unfoldable pub offers : Action → Process → Bool
offers action terminated = false
offers action (output subject objects p) = is_sending action
offers action (input subject count p) = is_receiving action
offers action (choice p q) = offers action p || offers action q
offers action (parallel p q) = offers action p || offers action q
offers action (restriction sort p) = offers action p
offers action (replication p) = offers action p
