use Rattle.std.proofs.Common.{sym, ap, subst, ◌∙◌}
use Rattle.std.proofs.lemmas.Option.{none-some, same_Some}
use Rattle.mesh_base.specs.Views.{flying_seen}
use Rattle.mesh_model.specs.Worlds as model
use Rattle.mesh_meaning.specs.Packets.{copy_in}
use Rattle.mesh_trail.specs.Casts.{list_of}
use Rattle.mesh_trail.specs.Lists.{HasRoom}
use Rattle.mesh_trail.proofs.Arrivals.{found_at, none_at, receiver_below, roomed_so}
use Rattle.mesh_trail.proofs.Nodes.{is_there}
use Rattle.mesh_trail.proofs.parts.Parts.prepare_copy.Goals as goal

pub returns-in_default-clause-prepared : goal.returns-in_default-clause-prepared
returns-in_default-clause-prepared c = λ k is. absurd (none-some k (sym (none_at c.args.self.now.world c.radio.result.now.flying c.args.id c.radio.ensures.flying c.in_default.ensures) ∙ is))

pub make_list_room-requires : goal.make_list_room-requires
make_list_room-requires c =
    let old = c.args.self.now in
    let found = found_at old.world c.radio.result.now.flying c.args.id (flying_seen c.in-Some.copy) c.radio.ensures.flying c.in-Some.ensures in
    let below = receiver_below old.world c.args.id (copy_in old.world.mesh (flying_seen c.in-Some.copy)) c.requires.kept.sound found in
    is_there old.world old.nodes.items old.casts.items c.in-Some.copy.to c.requires.kept below

pub returns-in_err-make_list_room-clause-kept : goal.returns-in_err-make_list_room-clause-kept
returns-in_err-make_list_room-clause-kept c =
    let old = c.args.self.now in
    let found = found_at old.world c.radio.result.now.flying c.args.id (flying_seen c.in-Some.copy) c.radio.ensures.flying c.in-Some.ensures in
    let below = receiver_below old.world c.args.id (copy_in old.world.mesh (flying_seen c.in-Some.copy)) c.requires.kept.sound found in
    roomed_so old.world old.nodes.items c.make_list_room.new.nodes.items old.casts.items c.in-Some.copy.to c.requires.kept below c.make_list_room.ensures.same

pub returns-clause-kept : goal.returns-clause-kept
returns-clause-kept c =
    let old = c.args.self.now in
    let found = found_at old.world c.radio.result.now.flying c.args.id (flying_seen c.in-Some.copy) c.radio.ensures.flying c.in-Some.ensures in
    let below = receiver_below old.world c.args.id (copy_in old.world.mesh (flying_seen c.in-Some.copy)) c.requires.kept.sound found in
    roomed_so old.world old.nodes.items c.make_list_room.new.nodes.items old.casts.items c.in-Some.copy.to c.requires.kept below c.make_list_room.ensures.same

pub returns-clause-prepared : goal.returns-clause-prepared
returns-clause-prepared c = λ k is.
    let old = c.args.self.now in
    let found = found_at old.world c.radio.result.now.flying c.args.id (flying_seen c.in-Some.copy) c.radio.ensures.flying c.in-Some.ensures in
    let same = same_Some (copy_in old.world.mesh (flying_seen c.in-Some.copy)) k (sym found ∙ is) in
    record {
      receiver = ap (λ (f : model.Copy). f.to) same;
      list = c.in_ok-copy.ensures ∙ c.find-2.ensures ∙ ap (λ cs. list_of cs c.args.id) c.as_slice.ensures.value;
      room = subst (λ (f : model.Copy). HasRoom f.to c.make_list_room.new.nodes.items) same c.in_ok-make_list_room.ensures.room;
    }
