use Rattle.text.proofs.TextLaws.{put_copied}
use Rattle.text.proofs.put_bytes.Goals as goal

pub returns : goal.returns
returns c = put_copied _ _ _ c.requires c.copy_from_slice.ensures.after
