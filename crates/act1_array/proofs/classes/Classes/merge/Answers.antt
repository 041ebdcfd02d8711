use Rattle.std.proofs.Common.{ℕ, List, [], ◌≡◌, ◌<◌, ◌++◌, length, slice_index_or, All, sym, ap, subst, ◌∙◌}
use Rattle.act1_array.specs.ClassSteps.{AreMembers, marked}
use Rattle.act1_array.proofs.ClassLemmas.{members_low, marked_is, members_merged, merged_members, is_merged_members}
use Rattle.act1_array.proofs.classes.Classes.merge.Goals as goal

pub mark-requires : goal.mark-requires
mark-requires c =
    let is : c.as_slice.result.now ≡ slice_index_or c.args.self.now.members.items c.args.from [] = c.as_slice.ensures ∙ c.take_members-moved.ensures.value in
    let low = members_low c.args.self.now.classes.items c.args.self.now.members.items c.requires.members c.args.from in
    subst (λ (ws : List ℕ). All (λ wire. wire < length c.args.self.now.classes.items) ws) (sym is) low

pub returns-clause-classes : goal.returns-clause-classes
returns-clause-classes c =
    let is : c.as_slice.result.now ≡ slice_index_or c.args.self.now.members.items c.args.from [] = c.as_slice.ensures ∙ c.take_members-moved.ensures.value in
    let marks : c.mark.new.classes.items ≡ marked c.args.to c.as_slice.result.now c.args.self.now.classes.items = c.mark.ensures in
    marks ∙ ap (λ (ws : List ℕ). marked c.args.to ws c.args.self.now.classes.items) is
    ∙ marked_is c.args.self.now.classes.items c.args.self.now.members.items c.requires.members c.args.from c.args.to c.requires.apart c.requires.from_low c.requires.to_low

pub returns-clause-members : goal.returns-clause-members
returns-clause-members c =
    let is : c.as_slice.result.now ≡ slice_index_or c.args.self.now.members.items c.args.from [] = c.as_slice.ensures ∙ c.take_members-moved.ensures.value in
    let marks : c.mark.new.classes.items ≡ marked c.args.to c.as_slice.result.now c.args.self.now.classes.items = c.mark.ensures in
    let classes_are = marks ∙ ap (λ (ws : List ℕ). marked c.args.to ws c.args.self.now.classes.items) is
    ∙ marked_is c.args.self.now.classes.items c.args.self.now.members.items c.requires.members c.args.from c.args.to c.requires.apart c.requires.from_low c.requires.to_low in
    let members_are = is_merged_members c.args.self.now.members.items c.args.from c.args.to c.take_members-moved.new.members.items c.take_members.new.members.items c.put_members.new.members.items
    c.take_members.result c.as_slice-2.result.now c.from_vec.result
    c.take_members-moved.ensures.after c.take_members.ensures.after c.take_members.ensures.value (c.as_slice-2.ensures ∙ c.take_members-moved.ensures.value)
    (c.from_vec.ensures ∙ c.in_ok-extend_from_slice.ensures.items ∙ ap (λ (xs : List ℕ). xs ++ c.as_slice-2.result.now) c.into_vec-all.ensures) c.put_members.ensures in
    subst (λ (ms : List (List ℕ)). AreMembers c.mark.new.classes.items ms) (sym members_are)
    (subst (λ (cs : List ℕ). AreMembers cs (merged_members c.args.self.now.members.items c.args.from c.args.to)) (sym classes_are)
    (members_merged c.args.self.now.classes.items c.args.self.now.members.items c.requires.members c.args.from c.args.to c.requires.apart c.requires.from_low c.requires.to_low))
