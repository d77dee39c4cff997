-- The examples hold. Assumes nothing.
use mathlib.Core.Path.{◌≡◌, refl}
use mathlib.Core.Bool.{true}
use Rattle.message_log.specs.RowEnds.{all_true, same_bytes}
use Rattle.lists.specs.Links as links
use Rattle.lists.specs.Family as family
use Rattle.actor.specs.Messages as messages
use Rattle.actor.specs.Actors as actors
use Rattle.actor.specs.Questions as questions
use Rattle.steps.specs.Steps as steps
use Rattle.steps.specs.StepFixed as fixed
use Rattle.group.specs.Roster as roster
use Rattle.route.specs.Batch as route
use Rattle.tick.specs.Settle as settle
use Rattle.theorem.specs.Examples as shown

pub examples_hold : all_true shown.examples ≡ true
unfolding all_true same_bytes shown.examples shown.dealt shown.waiting shown.delivered shown.taken shown.pushed_back
    shown.sent_back shown.in_hand shown.front_of_none shown.then_end shown.unread shown.ids_over
    links.mailbox_of links.hand_of links.link_at links.set_ends links.set_next links.start_from links.leave_of
    links.join_end links.join_front links.move_first links.move_first_to_front links.move_all
    family.chain family.view family.up_from messages.message_at actors.actor_at actors.actor_of actors.actor_onto
    questions.slot_of
    steps.place_over steps.over_first steps.take_mail fixed.step_fixed fixed.push_reply fixed.fixed_pushed roster.over_all
    route.deliver route.deliver_to settle.leftover_of settle.release_of
examples_hold = refl
