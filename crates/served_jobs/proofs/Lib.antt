mod DoorLaws
mod OwnEntries
mod WorkLaws
