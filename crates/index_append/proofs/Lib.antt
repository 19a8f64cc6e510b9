mod Appending
