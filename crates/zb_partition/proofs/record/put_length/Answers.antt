use Rattle.std.proofs.Common.{◌++◌, ◌∙◌, sym, ap₂, take_at, drop_at, take-append-drop, length-take-le, rules}
use Rattle.zb_partition.proofs.record.put_length.Goals as goal

pub copy_from_slice-requires : goal.copy_from_slice-requires
copy_from_slice-requires c = length-take-le 8 c.args.frame.now c.requires ∙ search rules

pub returns : goal.returns
returns c =
    let new = c.copy_from_slice.new.self in
    sym (take-append-drop 8 _) ∙ ap₂ (λ x y. x ++ y) (take_at new _ 8 (search rules) ∙ (c.copy_from_slice.ensures.after ∙ c.to_be_bytes.ensures)) (drop_at new _ 8 (search rules))
