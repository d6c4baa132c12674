-- The calls of the walk, as the register's code has them.
use Rattle.protocol.specs.Calls.{Call, open_at, node, enter, abandon}
use Rattle.register.specs.declared.walking.WalkCall.{WalkCall}
use Rattle.register.specs.declared.walking.WalkCall.TheVariants.{Open, Node, Enter, Abandon}

abbrev pub call_of : WalkCall → Call
call_of (Open set) = open_at set
call_of (Node number a b) = node number a b
call_of Enter = enter
call_of Abandon = abandon
