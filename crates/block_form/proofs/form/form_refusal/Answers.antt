-- `block_form::form::form_refusal` meets its contract.
use Rattle.std.proofs.Common.{not, sym, ◌∙◌, ap, eq-eqb, ne_eqb}
use Rattle.opening.proofs.Tests.{yes, no}
use Rattle.block_form.specs.Form.{form_refusal_with}
use Rattle.block_form.proofs.FormLaws.{whole-passes}
use Rattle.block_form.proofs.form.form_refusal.Goals as goal

pub returns-then-words_room-coefs_room : goal.returns-then-words_room-coefs_room
unfolding form_refusal_with
returns-then-words_room-coefs_room c = simp (ne_eqb _ _ c.if-words_room-coefs_room.true)

pub returns-then-not-whole_blocks : goal.returns-then-not-whole_blocks
unfolding form_refusal_with
returns-then-not-whole_blocks c = simp (eq-eqb _ _ c.if-words_room-coefs_room.false, no c.whole_blocks.ensures (ap not c.if-not-whole_blocks.true))

pub returns-then-not-checks_stand : goal.returns-then-not-checks_stand
unfolding form_refusal_with
returns-then-not-checks_stand c = simp (eq-eqb _ _ c.if-words_room-coefs_room.false, yes c.whole_blocks.ensures (ap not c.if-not-whole_blocks.false), no c.checks_stand.ensures (ap not c.if-not-checks_stand.true))

pub blocks_stand-requires : goal.blocks_stand-requires
blocks_stand-requires c = let w = whole-passes _ (yes c.whole_blocks.ensures (ap not c.if-not-whole_blocks.false)) in (w.some, w.most)

pub returns-then-blocks_stand : goal.returns-then-blocks_stand
unfolding form_refusal_with
returns-then-blocks_stand c = simp (eq-eqb _ _ c.if-words_room-coefs_room.false, yes c.whole_blocks.ensures (ap not c.if-not-whole_blocks.false), yes c.checks_stand.ensures (ap not c.if-not-checks_stand.false), sym c.blocks_stand.ensures ∙ c.if-blocks_stand.true)

pub returns-else-blocks_stand : goal.returns-else-blocks_stand
unfolding form_refusal_with
returns-else-blocks_stand c = simp (eq-eqb _ _ c.if-words_room-coefs_room.false, yes c.whole_blocks.ensures (ap not c.if-not-whole_blocks.false), yes c.checks_stand.ensures (ap not c.if-not-checks_stand.false), sym c.blocks_stand.ensures ∙ c.if-blocks_stand.false)
