use Rattle.std.proofs.Common.{◌≡◌, ◌+◌, ◌*◌, ◌-◌, ◌/◌, ◌%◌, ◌==◌, nat_le, length, map, drop, ap, ◌∙◌, arith, rules}
use Rattle.std.proofs.lemmas.Bool.{le-leb, and_from, eq-eqb}
use Rattle.forms.specs.Bodies.{records}
use Rattle.protocol.specs.Bodies.{set_of}
use Rattle.register.specs.Loads.{record_of}
use Rattle.register.proofs.Stepping.{record_of-first_chunks}
use Rattle.register.proofs.trees.set_and_steps.Goals as goal

pub returns : goal.returns
returns c =
    let body = c.args.body.now in
    let rest = c.in_ok-set.rest.now in
    let after : rest ≡ drop 8 body = search rules in
    let long : length rest + 8 ≡ length body = search rules in
    let whole : length rest ≡ length rest / 3 * 3 = omega (arith, c.as_chunks.ensures.back_len, c.in_default-empty.len_below) in
    let set : c.from_le_bytes.result ≡ set_of body = search rules in (
      and_from (nat_le 8 (length body)) ((length body - 8) % 3 == 0) (le-leb 8 (length body) (omega (arith, long)))
          (eq-eqb ((length body - 8) % 3) 0 (omega (arith, long, c.as_chunks.ensures.back_len, c.in_default-empty.len_below))),
      set,
      ap (map record_of) c.as_chunks.ensures.front ∙ record_of-first_chunks (length rest / 3) rest whole ∙ ap records after,
    )
