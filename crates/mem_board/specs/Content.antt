-- What the content of a board in memory stands for.
use Rattle.board_model.specs.Disk.{Image}
use Rattle.mem_board.specs.declared.content.Content.{Content}

abbrev pub image_of : Content → Image
image_of content = record { files = content.files; words = content.words }
