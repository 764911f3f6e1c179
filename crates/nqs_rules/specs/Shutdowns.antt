-- When a host halts, told without its steps.
use Rattle.std.specs.Prelude.{Bool, true, false, ◌&&◌, is_ok}
use Rattle.nqs_state.specs.State.{Plain}
use Rattle.nqs_rules.specs.Access.{rank, may_command}
use Rattle.nqs_types.specs.declared.event.Command.{Command}
use Rattle.nqs_types.specs.declared.event.Command.TheVariants as command
use Rattle.nqs_types.specs.declared.event.Event.{Event}
use Rattle.nqs_types.specs.declared.event.Event.TheVariants as event

-- whether a command is a shutdown
abbrev pub is_shutdown : Command → Bool
is_shutdown command.Shutdown = true
is_shutdown _ = false

-- a shutdown that its user may give
abbrev pub shuts_down : Event → Plain → Bool
shuts_down (event.Ask _ _ _ user c) s = is_shutdown c && is_ok (may_command (rank user s) c)
shuts_down _ s = false
