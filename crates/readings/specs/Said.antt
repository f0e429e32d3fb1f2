-- What a reading says. Assumes nothing.
use Rattle.readings.specs.declared.reading.Reading.{Reading}
use Rattle.readings.specs.Contents.{Content, content_from}

abbrev pub content_of : Reading → Content
content_of r = content_from r.seats r.budget r.bottom r.orders
