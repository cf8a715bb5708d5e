use Rattle.std.proofs.Common.{◌≡◌, map, drop, string_bytes}
use Rattle.serde_json.specs.View.{items_view}
use Rattle.reg_manifest.specs.Fields.{each, text_of}
use Rattle.reg_manifest.proofs.After.{after}
use Rattle.reg_manifest.proofs.fields.each_text.Given as goal

abbrev pub invariant-loop-value : goal.invariant-loop-value
invariant-loop-value l = after (map string_bytes l.texts.items) (each text_of (items_view (drop l.value-index l.list))) ≡ each text_of (items_view l.list)
